-- What the inner functions answer. Nothing here needs to be believed: laws lead from these to the definitions of the other files.
use Rattle.std.specs.Prelude.{ℕ, true, List, ◌≡◌, ℤ}
use Rattle.unit.specs.declared.Rasters.{Rasters}
use Rattle.shape.specs.declared.Edition.{Edition}
use Rattle.file.specs.Rows.{scanned_of}
use Rattle.duplicates.specs.Words.{duplicate_line}
use Rattle.rasters.specs.Rasters.{rasters_of}
use Rattle.rules.specs.Filled.{filled}
use Rattle.answers.specs.Answers.{is_accepted}
use Rattle.answers.specs.Outcome.{Answer, Accepted}
use Rattle.reader.specs.Reading.{samples_laid, shapes_asked, texts_asked, file_asked, asked, rows_kept, samples_kept}

-- an answer, and what the lent tables hold if it is an acceptance
pub record Judged (a : Answer) (kept samples : List ℤ) (r : Answer) (table' l' : List ℤ) : Type 0 where
  pub answer : r ≡ a
  pub rows : is_accepted r ≡ true → table' ≡ kept
  pub values : is_accepted r ≡ true → l' ≡ samples

-- from SHAPE on
abbrev pub RowsJudged : Edition → Rasters → List ℕ → ℕ → ℕ → List ℤ → List ℤ → Answer → List ℤ → List ℤ → Type 0
RowsJudged e q file n count rows l =
    Judged (shapes_asked e q file rows n l (Accepted n count)) (filled e q rows n (samples_laid e file rows n l) rows 0 n) (samples_laid e file rows n l)

-- from SITE on
abbrev pub TextsJudged : Edition → List ℕ → List ℕ → ℕ → ℕ → List ℤ → List ℤ → Answer → List ℤ → List ℤ → Type 0
TextsJudged e file site n count rows l =
    Judged (texts_asked (duplicate_line file rows n) e file site rows n l (Accepted n count))
    (filled e (rasters_of e file site) rows n (samples_laid e file rows n l) rows 0 n)
    (samples_laid e file rows n l)

-- from the first line on, and from BIG on
abbrev pub FileJudged : List ℕ → List ℕ → List ℤ → List ℤ → Answer → List ℤ → List ℤ → Type 0
FileJudged file site table l = Judged (file_asked (scanned_of file) file site table l) (rows_kept (scanned_of file) file site table l) (samples_kept (scanned_of file) file table l)

abbrev pub AllJudged : List ℕ → List ℕ → List ℤ → List ℤ → Answer → List ℤ → List ℤ → Type 0
AllJudged file site table l = Judged (asked file site table l) (rows_kept (scanned_of file) file site table l) (samples_kept (scanned_of file) file table l)
