-- Reading a whole file with a site's definitions. "BIG is tested first. Then 2 to 5 line by line: the first faulty line answers, with its lowest
-- number. Then 6 to 19 in order, each over the whole file, at the first line concerned. 1, 6, 7, 8, 10 .. give line 0."
use Rattle.std.specs.Prelude.{ℕ, cond, List, [], ◌∷◌, ◌≡◌, eqb, ltb, ℤ, pos, length, replicate, Err, Ok}
use Rattle.unit.specs.declared.Rasters.{Rasters}
use Rattle.shape.specs.declared.Edition.{Edition}
use Rattle.file.specs.Rows.{Placed, rows_of, line_of, laid_rows, scanned_of}
use Rattle.file.specs.Outcome.{Scanned}
use Rattle.repeats.specs.Repeats.{duplicate_of}
use Rattle.rasters.specs.Rasters.{rasters_of, lacks}
use Rattle.sampling.specs.Sampling.{first_failing, laid_from}
use Rattle.rules.specs.Rules.{first_broken}
use Rattle.rules.specs.Filled.{filled}
use Rattle.rules.specs.declared.Rule.{Rule}
use Rattle.answers.specs.declared.Refusal.TheVariants.{Big, Missing, Room, Site, Duplicate, Raster, Shape}
use Rattle.answers.specs.Outcome.{Answer, Accepted, Refused}
use Rattle.questions.specs.Asked.{is_big, fault_refusal, any_block, is_missing, lacks_room, bad_site, in_order, rule_refusal}

-- ---- The tables as they are filled: the rows of the file over a lent table, and the samples of n rows over the lent samples l
abbrev pub rows_laid : List ℕ → List ℤ → List ℤ
rows_laid file table = laid_rows table 0 (rows_of file)

abbrev pub samples_laid : Edition → List ℕ → List ℤ → ℕ → List ℤ → List ℤ
samples_laid e file rows n l = laid_from e file rows (length l) 0 n l

-- ---- 12 to 17: the first rule that one of n rows breaks, at the line of the first row that breaks it
unfoldable pub first_refused : List Rule → (Rule → ℕ) → ℕ → List Placed → Answer → Answer
first_refused [] first n rs accepted = accepted
first_refused (rule ∷ more) first n rs accepted = cond (ltb (first rule) n) (Refused (rule_refusal rule) (line_of rs (first rule))) (first_refused more first n rs accepted)

abbrev pub rules_asked : Edition → Rasters → List ℕ → List ℤ → ℕ → List ℤ → Answer → Answer
rules_asked e q file rows n samples accepted = first_refused in_order (λ rule. first_broken rule e q rows n samples) n (rows_of file) accepted

-- ---- 11: SHAPE, at "the header line for a shape"
unfoldable pub shapes_asked : Edition → Rasters → List ℕ → List ℤ → ℕ → List ℤ → Answer → Answer
shapes_asked e q file rows n l accepted =
    cond (ltb (first_failing e file rows (length l) n) n) (Refused Shape (line_of (rows_of file) (first_failing e file rows (length l) n)))
    (rules_asked e q file rows n (samples_laid e file rows n l) accepted)

-- ---- 8 to 10: SITE, DUPLICATE, RASTER
-- `again` is the first line at which something is met again, 0 if nothing is
unfoldable pub texts_asked : ℕ → Edition → List ℕ → List ℕ → List ℤ → ℕ → List ℤ → Answer → Answer
texts_asked again e file site rows n l accepted =
    cond (bad_site e site) (Refused Site 0)
    (cond (eqb again 0) (cond (lacks e (rasters_of e file site)) (Refused Raster 0) (shapes_asked e (rasters_of e file site) file rows n l accepted))
    (Refused Duplicate again))

-- ---- 2 to 5 as the lines say; 6 and 7: MISSING, ROOM
unfoldable pub file_asked : Scanned → List ℕ → List ℕ → List ℤ → List ℤ → Answer
file_asked (Err why) file site table l = Refused (fault_refusal why.fault) why.line
file_asked (Ok got) file site table l =
    cond (is_missing got.edition (any_block (rows_of file)) got.defined) (Refused Missing 0)
    (cond (lacks_room got.rows got.samples (length table) (length l)) (Refused Room 0) (texts_asked (duplicate_of file) got.edition file site (rows_laid file table) got.rows l (Accepted got.rows got.samples)))

-- ---- 1: BIG; and all of it, over lent tables that hold these numbers
unfoldable pub asked : List ℕ → List ℕ → List ℤ → List ℤ → Answer
asked file site table l = cond (is_big file site) (Refused Big 0) (file_asked (scanned_of file) file site table l)

-- ---- What the tables hold when a file is accepted: its rows, each block with its ns, and its samples
unfoldable pub rows_kept : Scanned → List ℕ → List ℕ → List ℤ → List ℤ → List ℤ
rows_kept (Err why) file site table l = table
rows_kept (Ok got) file site table l =
    filled got.edition (rasters_of got.edition file site) (rows_laid file table) got.rows (samples_laid got.edition file (rows_laid file table) got.rows l) (rows_laid file table) 0 got.rows

unfoldable pub samples_kept : Scanned → List ℕ → List ℤ → List ℤ → List ℤ
samples_kept (Err why) file table l = l
samples_kept (Ok got) file table l = samples_laid got.edition file (rows_laid file table) got.rows l

-- ---- "On refusal both counts are 0 and both tables all zero. On acceptance all past the used part, and past a row's own numbers, is zero."
abbrev pub zeros : ℕ → List ℤ
zeros n = replicate n (pos 0)

abbrev pub if_accepted : Answer → List ℤ → List ℤ → List ℤ
if_accepted (Ok got) kept none = kept
if_accepted (Err why) kept none = none

-- ---- All that reading answers, with room numbers for rows and size samples lent, and all that it leaves in the tables
unfoldable pub read_of : List ℕ → List ℕ → ℕ → ℕ → Answer
read_of file site room size = asked file site (zeros room) (zeros size)

unfoldable pub rows_out : List ℕ → List ℕ → ℕ → ℕ → List ℤ
rows_out file site room size = if_accepted (read_of file site room size) (rows_kept (scanned_of file) file site (zeros room) (zeros size)) (zeros room)

unfoldable pub samples_out : List ℕ → List ℕ → ℕ → ℕ → List ℤ
samples_out file site room size = if_accepted (read_of file site room size) (samples_kept (scanned_of file) file (zeros room) (zeros size)) (zeros size)

pub record Reading (file site : List ℕ) (table l : List ℤ) (r : Answer) (table' l' : List ℤ) : Type 0 where
  pub answer : r ≡ read_of file site (length table) (length l)
  pub rows : table' ≡ rows_out file site (length table) (length l)
  pub samples : l' ≡ samples_out file site (length table) (length l)
