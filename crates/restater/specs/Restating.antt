-- Restating a file to a target. "Then 6 to 19 in order": what reading and the target ask, then UNSAYABLE, then OUTPUT.
use Rattle.std.specs.Prelude.{ℕ, ◌-◌, ◌^◌, min, Bool, cond, List, ◌++◌, ◌≡◌, leb, ℤ, length, replicate, Err, Ok}
use Rattle.shape.specs.declared.Edition.{Edition}
use Rattle.needs.specs.Needs.{site_rasters}
use Rattle.sayable.specs.Sayable.{unsayable}
use Rattle.answers.specs.Outcome.{Answer}
use Rattle.reader.specs.Reading.{zeros, read_of, rows_out, samples_out}
use Rattle.sources.specs.Sources.{own_rasters, asked_for}
use Rattle.restated.specs.Text.{restated_text}
use Rattle.restater.specs.Answers.{rows_read}
use Rattle.restater.specs.Outcome.{Restated, Text, Refused}
use Rattle.restater.specs.declared.Unrestated.TheVariants.{Output, Unread, Unsayable}

-- ---- UNSAYABLE of n rows, by the rasters that the file goes by and the site's
abbrev pub is_unsayable : Edition → List ℕ → List ℕ → List ℤ → ℕ → Bool
is_unsayable target file site rows n = unsayable target (own_rasters file site) (site_rasters site) rows n

-- ---- The text of n rows and their samples
abbrev pub text_of : Edition → List ℕ → List ℕ → List ℤ → ℕ → List ℤ → List ℕ
text_of target file site rows n samples = restated_text target (own_rasters file site).block.0 file site rows n samples

-- ---- "19 OUTPUT: restated text over the lent output or 2^24 bytes"
abbrev pub fits : List ℕ → ℕ → Bool
fits text space = leb (length text) (min space (2 ^ 24))

-- ---- From 18 on, of a file that was accepted with n rows and s samples, in tables that hold them
unfoldable pub said : Edition → List ℕ → List ℕ → List ℤ → ℕ → List ℤ → ℕ → ℕ → Restated
said target file site rows n samples s space =
    cond (is_unsayable target file site rows n) (Err Unsayable)
    (cond (fits (text_of target file site rows n samples) space) (Text n s (length (text_of target file site rows n samples))) (Err Output))

unfoldable pub restated_from : Answer → Edition → List ℕ → List ℕ → List ℤ → List ℤ → ℕ → Restated
restated_from (Ok got) target file site rows samples space = said target file site rows got.rows samples got.samples space
restated_from (Err why) target file site rows samples space = Refused why.refusal why.line

-- ---- All that restating answers, with room numbers for rows, size samples and space bytes lent
unfoldable pub restate_of : Edition → List ℕ → List ℕ → ℕ → ℕ → ℕ → Restated
restate_of target file site room size space =
    restated_from (asked_for target file site (read_of file site room size)) target file site (rows_out file site room size) (samples_out file site room size) space

-- ---- What it leaves: "On acceptance the tables hold what was read"; "Restating also gets an output slice ..; the rest, or all of it on refusal, is zero."
abbrev pub if_text : {A : Type 0} → Restated → A → A → A
if_text (Ok got) kept none = kept
if_text (Err (Unread why)) kept none = none
if_text (Err Unsayable) kept none = none
if_text (Err Output) kept none = none

abbrev pub blank_bytes : ℕ → List ℕ
blank_bytes n = replicate n 0

abbrev pub laid_out : List ℕ → ℕ → List ℕ
laid_out text space = text ++ blank_bytes (space - length text)

-- the text of what was read, of as many rows as the answer counts
abbrev pub text_for : Restated → Edition → List ℕ → List ℕ → ℕ → ℕ → List ℕ
text_for r target file site room size = text_of target file site (rows_out file site room size) (rows_read r) (samples_out file site room size)

unfoldable pub rows_after : Edition → List ℕ → List ℕ → ℕ → ℕ → ℕ → List ℤ
rows_after target file site room size space = if_text (restate_of target file site room size space) (rows_out file site room size) (zeros room)

unfoldable pub samples_after : Edition → List ℕ → List ℕ → ℕ → ℕ → ℕ → List ℤ
samples_after target file site room size space = if_text (restate_of target file site room size space) (samples_out file site room size) (zeros size)

unfoldable pub output_after : Edition → List ℕ → List ℕ → ℕ → ℕ → ℕ → List ℕ
output_after target file site room size space =
    if_text (restate_of target file site room size space) (laid_out (text_for (restate_of target file site room size space) target file site room size) space) (blank_bytes space)

pub record Restating (target : Edition) (file site : List ℕ) (table l : List ℤ) (out : List ℕ) (r : Restated) (table' l' : List ℤ) (out' : List ℕ) : Type 0 where
  pub answer : r ≡ restate_of target file site (length table) (length l) (length out)
  pub rows : table' ≡ rows_after target file site (length table) (length l) (length out)
  pub samples : l' ≡ samples_after target file site (length table) (length l) (length out)
  pub output : out' ≡ output_after target file site (length table) (length l) (length out)
