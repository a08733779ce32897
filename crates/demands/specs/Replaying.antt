-- "A file accepted with one site's definitions, restated to a target edition and read by the target's rules alone with those definitions and enough
-- table room, is accepted and plays the same: the same blocks in order, durations, events, samples and extension rows."
use Rattle.restater.specs.Outcome.{Restated}
use Rattle.std.specs.Prelude.{ℕ, ◌*◌, ◌≤◌, Bool, true, false, cond, List, ◌≡◌, ℤ, length, take}
use Rattle.unit.specs.declared.Rasters.{Rasters}
use Rattle.shape.specs.declared.Edition.{Edition}
use Rattle.shape.specs.declared.Edition.TheVariants.{V13, V14}
use Rattle.columns.specs.Rows.{row_width}
use Rattle.file.specs.Rows.{rows_of, scanned_of}
use Rattle.answers.specs.Outcome.{Answer, Accepted, Refused}
use Rattle.answers.specs.declared.Refusal.TheVariants.{Version}
use Rattle.reader.specs.Reading.{read_of, rows_out, samples_out}
use Rattle.sources.specs.Sources.{edition_in, own_rasters}
use Rattle.restater.specs.Answers.{is_text, text_length}
use Rattle.demands.specs.Keeping.{sample_sum}
use Rattle.demands.specs.Playing.{Played, played_of}
use Rattle.demands.specs.Refusing.{Outcome}

-- ---- "read by the target's rules alone": the reader's definition with the edition fixed to the target's. Every rule that reading asks goes by the
-- edition that the text's VERSION names; a text that names another keeps none of the target's rules
unfoldable pub is_edition : Edition → Edition → Bool
is_edition V13 V13 = true
is_edition V13 V14 = false
is_edition V14 V13 = false
is_edition V14 V14 = true

unfoldable pub read_by : Edition → List ℕ → List ℕ → ℕ → ℕ → Answer
read_by target text site room size = cond (is_edition target (edition_in (scanned_of text))) (read_of text site room size) (Refused Version 0)

-- ---- "enough table room": twelve numbers for each row of the text, and a sample for each that its shapes declare
unfoldable pub rows_room : List ℕ → ℕ
rows_room text = length (rows_of text) * row_width

unfoldable pub samples_room : List ℕ → ℕ
samples_room text = sample_sum (rows_of text)

pub record EnoughRoom (text : List ℕ) (room size : ℕ) : Type 0 where
  pub rows : rows_room text ≤ room
  pub samples : samples_room text ≤ size

-- ---- What a file plays, from the tables that reading leaves and from the rasters that it goes by
unfoldable pub played_in : List ℕ → List ℕ → ℕ → ℕ → Played
played_in file site room size = played_of (own_rasters file site) (rows_out file site room size) (length (rows_of file)) (samples_out file site room size)

-- ---- "is accepted and plays the same", in all tables with enough room
pub record PlaysSame (target : Edition) (file site : List ℕ) (room size : ℕ) (text : List ℕ) : Type 0 where
  pub accepted : (room' size' : ℕ) → EnoughRoom text room' size' → read_by target text site room' size' ≡ Accepted (length (rows_of text)) (samples_room text)
  pub same : (room' size' : ℕ) → EnoughRoom text room' size' → played_in text site room' size' ≡ played_in file site room size

-- ---- Demand 3 of what restating answers and leaves, for a file that was accepted with n rows and s samples: it is refused exactly for a fault in the
-- definitions or rasters, a thing on the paper's list, or lack of output room; and else what stands in front of its output plays the same
pub record ThirdDemand (target : Edition) (file site : List ℕ) (room size space n s : ℕ) (r : Restated) (out : List ℕ) : Type 0 where
  pub outcome : Outcome target file site room size space n s r
  pub plays : is_text r ≡ true → PlaysSame target file site room size (take (text_length r) out)

-- ---- and of reading that again: an answer and tables that play what other tables, with n rows, play
pub record PlaysAgain (text site : List ℕ) (q : Rasters) (rows : List ℤ) (n : ℕ) (samples : List ℤ) (r : Answer) (rows' samples' : List ℤ) : Type 0 where
  pub accepted : r ≡ Accepted (length (rows_of text)) (samples_room text)
  pub same : played_of (own_rasters text site) rows' (length (rows_of text)) samples' ≡ played_of q rows n samples
