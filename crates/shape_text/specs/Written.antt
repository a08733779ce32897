-- Samples written as stored lines. Samples are counted in steps of 10^-12.
use Rattle.shape_text.specs.declared.Unwritten.{Unwritten}
use Rattle.shape_text.specs.declared.Unwritten.TheVariants.{Output, Shape}
use Rattle.std.specs.Prelude.{ℕ, zero, suc, ◌-◌, ◌^◌, min, Bool, true, false, cond, not, ◌&&◌, List, [], ◌∷◌, ◌++◌, ◌≡◌, leb, ltb, ℤ, pos, nat_abs, ◌-ℤ◌, length, replicate, Ok, Err, Result}
use Rattle.signed.specs.Signed.{same_z}
use Rattle.print.specs.Printed.{digits_of, sample_text}
use Rattle.shape.specs.declared.Edition.{Edition}
use Rattle.shape.specs.declared.Edition.TheVariants.{V13, V14}

abbrev pub Written : Type 0
Written = Result ℕ Unwritten

-- ---- "Writing: differences of samples"
unfoldable pub differences_from : ℤ → List ℤ → List ℤ
differences_from p [] = []
differences_from p (z ∷ zs) = (z -ℤ p) ∷ differences_from z zs

-- ---- "each longest run of n >= 2 as value, value, n - 2"
-- a value, and how often more it stands
pub record Run : Type 0 where
  pub value : ℤ
  pub more : ℕ

unfoldable pub on_run : ℤ → List Run → List Run
on_run d [] = record { value = d; more = 0 } ∷ []
on_run d (r ∷ rs) = cond (same_z d r.value) (record { value = d; more = suc r.more } ∷ rs) (record { value = d; more = 0 } ∷ r ∷ rs)

unfoldable pub runs_of : List ℤ → List Run
runs_of [] = []
runs_of (d ∷ ds) = on_run d (runs_of ds)

unfoldable pub run_lines : ℤ → ℕ → List (List ℕ)
run_lines d zero = sample_text d ∷ []
run_lines d (suc k) = sample_text d ∷ sample_text d ∷ digits_of k ∷ []

unfoldable pub runs_lines : List Run → List (List ℕ)
runs_lines [] = []
runs_lines (r ∷ rs) = run_lines r.value r.more ++ runs_lines rs

unfoldable pub packed_lines : List ℤ → List (List ℕ)
packed_lines zs = runs_lines (runs_of (differences_from (pos 0) zs))

-- ---- "For 1.4 the plain samples, unless this has fewer values; for 1.3 never plain."
unfoldable pub plain_lines : List ℤ → List (List ℕ)
plain_lines [] = []
plain_lines (z ∷ zs) = sample_text z ∷ plain_lines zs

unfoldable pub is_plain_text : Edition → ℕ → ℕ → Bool
is_plain_text V13 packed plain = false
is_plain_text V14 packed plain = not (ltb packed plain)

unfoldable pub stored_lines : Edition → List ℤ → List (List ℕ)
stored_lines edition zs = cond (is_plain_text edition (length (packed_lines zs)) (length zs)) (plain_lines zs) (packed_lines zs)

-- each line with an LF behind it
unfoldable pub ended_lines : List (List ℕ) → List ℕ
ended_lines [] = []
ended_lines (l ∷ ls) = l ++ 10 ∷ ended_lines ls

unfoldable pub text_of : Edition → List ℤ → List ℕ
text_of edition zs = ended_lines (stored_lines edition zs)

-- ---- "Writing SHAPE for no sample, over 10^6 or one beyond ±100,000, then OUTPUT": over the lent output or 2^24 bytes
unfoldable pub all_within : List ℤ → Bool
all_within [] = true
all_within (z ∷ zs) = leb (nat_abs z) (10 ^ 17) && all_within zs

-- the stored lines of samples that are within it, wherever they are written; nothing where one is beyond
unfoldable pub stored_text : Edition → List ℤ → List ℕ
stored_text edition zs = cond (all_within zs) (text_of edition zs) []

unfoldable pub is_writable : List ℤ → Bool
is_writable zs = leb 1 (length zs) && leb (length zs) 1000000 && all_within zs

unfoldable pub written_of : Edition → List ℤ → ℕ → Written
written_of edition zs room =
    cond (is_writable zs) (cond (leb (length (text_of edition zs)) (min room (2 ^ 24))) (Ok (length (text_of edition zs))) (Err Output)) (Err Shape)

-- the paper's number of each answer, and the length of the text
abbrev pub number_of : Written → ℕ
number_of (Ok n) = 0
number_of (Err Shape) = 11
number_of (Err Output) = 19

abbrev pub length_of : Written → ℕ
length_of (Ok n) = n
length_of (Err Shape) = 0
length_of (Err Output) = 0

-- the lent output afterwards: the text and then zeros; on a refusal zeros throughout
unfoldable pub output_after : Written → List ℕ → ℕ → List ℕ
output_after (Ok n) t room = t ++ replicate (room - length t) 0
output_after (Err Shape) t room = replicate room 0
output_after (Err Output) t room = replicate room 0

unfoldable pub output_of : Edition → List ℤ → ℕ → List ℕ
output_of edition zs room = output_after (written_of edition zs room) (text_of edition zs) room

-- what writing answers, and what it leaves in the lent output l
pub record Writing (edition : Edition) (zs : List ℤ) (l : List ℕ) (r : Written) (l' : List ℕ) : Type 0 where
  pub answer : r ≡ written_of edition zs (length l)
  pub output : l' ≡ output_of edition zs (length l)
