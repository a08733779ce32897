-- What each function of the library writes: the lent tables or output, and the numbers of its answer.
use Rattle.std.specs.Prelude.{None, Some}
use Rattle.restater.specs.Outcome.{Restated}
use Rattle.answers.specs.Outcome.{Answer}
use Rattle.shape.specs.declared.Edition.{Edition}
use Rattle.std.specs.Prelude.{ℕ, ◌-◌, cond, List, [], ◌∷◌, ◌++◌, ◌≡◌, eqb, ℤ, length, take, replicate, None, Option, Some}
use Rattle.expanding.specs.Alone.{expanded_of, table_of}
use Rattle.shape.specs.Answers.{Expanded, number_of, used_of}
use Rattle.shape.specs.declared.Edition.TheVariants.{V13, V14}
use Rattle.shape_text.specs.Written.{Written, written_of, output_of, length_of, number_of as written_number}
use Rattle.answers.specs.Answers.{answer_number, answer_line, rows_used, samples_used}
use Rattle.reader.specs.Reading.{zeros, read_of, rows_out, samples_out}
use Rattle.restater.specs.Answers.{restated_number, restated_line, rows_read, samples_read, text_length}
use Rattle.restater.specs.Restating.{restate_of, rows_after, samples_after, output_after}
use Rattle.lookups.specs.Spots.{Spot, spot_number, spot_start, spot_length, definition_spot, stored_spot}

-- ---- Numbers told in an answer of n numbers: as many as fit, and zeros behind them
unfoldable pub told : ℕ → List ℕ → List ℕ
told n ns = take n ns ++ replicate (n - length ns) 0

-- ---- Reading: "It answers a number, a line, rows used and samples used."
abbrev pub read_numbers : Answer → List ℕ
read_numbers a = answer_number a ∷ answer_line a ∷ rows_used a ∷ samples_used a ∷ []

pub record ReadTold (file site : List ℕ) (table l : List ℤ) (answer : List ℕ) (table' l' : List ℤ) (answer' : List ℕ) : Type 0 where
  pub rows : table' ≡ rows_out file site (length table) (length l)
  pub samples : l' ≡ samples_out file site (length table) (length l)
  pub numbers : answer' ≡ told (length answer) (read_numbers (read_of file site (length table) (length l)))

-- ---- The edition that a number names, 103 or 104; any other is VERSION, with zeros throughout
unfoldable pub edition_of : ℕ → Option Edition
edition_of n = cond (eqb n 103) (Some V13) (cond (eqb n 104) (Some V14) None)

abbrev pub version_numbers : List ℕ
version_numbers = 3 ∷ 0 ∷ []

-- ---- Expanding alone: the number and how many samples
abbrev pub expand_numbers : Expanded → List ℕ
expand_numbers r = number_of r ∷ used_of r ∷ []

unfoldable pub expand_samples : Option Edition → ℕ → List ℕ → ℕ → List ℤ
expand_samples (Some e) num text room = table_of e num text room
expand_samples None num text room = zeros room

unfoldable pub expand_answer : Option Edition → ℕ → List ℕ → ℕ → List ℕ
expand_answer (Some e) num text room = expand_numbers (expanded_of e num text room)
expand_answer None num text room = version_numbers

pub record ExpandTold (text : List ℕ) (num edition : ℕ) (l : List ℤ) (answer : List ℕ) (l' : List ℤ) (answer' : List ℕ) : Type 0 where
  pub samples : l' ≡ expand_samples (edition_of edition) num text (length l)
  pub numbers : answer' ≡ told (length answer) (expand_answer (edition_of edition) num text (length l))

-- ---- Writing: the number and the length of the text
abbrev pub write_numbers : Written → List ℕ
write_numbers r = written_number r ∷ length_of r ∷ []

unfoldable pub write_output : Option Edition → List ℤ → ℕ → List ℕ
write_output (Some e) zs room = output_of e zs room
write_output None zs room = replicate room 0

unfoldable pub write_answer : Option Edition → List ℤ → ℕ → List ℕ
write_answer (Some e) zs room = write_numbers (written_of e zs room)
write_answer None zs room = version_numbers

pub record WriteTold (zs : List ℤ) (edition : ℕ) (l : List ℕ) (answer : List ℕ) (l' : List ℕ) (answer' : List ℕ) : Type 0 where
  pub output : l' ≡ write_output (edition_of edition) zs (length l)
  pub numbers : answer' ≡ told (length answer) (write_answer (edition_of edition) zs (length l))

-- ---- Restating: "Restating also gets an output slice and answers its length"
abbrev pub restate_numbers : Restated → List ℕ
restate_numbers r = restated_number r ∷ restated_line r ∷ rows_read r ∷ samples_read r ∷ text_length r ∷ []

unfoldable pub restate_rows : Option Edition → List ℕ → List ℕ → ℕ → ℕ → ℕ → List ℤ
restate_rows (Some e) file site room size space = rows_after e file site room size space
restate_rows None file site room size space = zeros room

unfoldable pub restate_samples : Option Edition → List ℕ → List ℕ → ℕ → ℕ → ℕ → List ℤ
restate_samples (Some e) file site room size space = samples_after e file site room size space
restate_samples None file site room size space = zeros size

unfoldable pub restate_output : Option Edition → List ℕ → List ℕ → ℕ → ℕ → ℕ → List ℕ
restate_output (Some e) file site room size space = output_after e file site room size space
restate_output None file site room size space = replicate space 0

unfoldable pub restate_answer : Option Edition → List ℕ → List ℕ → ℕ → ℕ → ℕ → List ℕ
restate_answer (Some e) file site room size space = restate_numbers (restate_of e file site room size space)
restate_answer None file site room size space = version_numbers

pub record RestateTold (file site : List ℕ) (target : ℕ) (table l : List ℤ) (out answer : List ℕ) (table' l' : List ℤ) (out' answer' : List ℕ) : Type 0 where
  pub rows : table' ≡ restate_rows (edition_of target) file site (length table) (length l) (length out)
  pub samples : l' ≡ restate_samples (edition_of target) file site (length table) (length l) (length out)
  pub output : out' ≡ restate_output (edition_of target) file site (length table) (length l) (length out)
  pub numbers : answer' ≡ told (length answer) (restate_answer (edition_of target) file site (length table) (length l) (length out))

-- ---- Looking up: 1 for the file's text or 2 for the site's, where the part starts, and how long it is; zeros if there is none
abbrev pub spot_numbers : Spot → List ℕ
spot_numbers s = spot_number s ∷ spot_start s ∷ spot_length s ∷ []

pub record DefinitionTold (file site key answer answer' : List ℕ) : Type 0 where
  pub numbers : answer' ≡ told (length answer) (spot_numbers (definition_spot file site key))

pub record StoredTold (file site : List ℕ) (id : ℤ) (answer answer' : List ℕ) : Type 0 where
  pub numbers : answer' ≡ told (length answer) (spot_numbers (stored_spot file site id))
