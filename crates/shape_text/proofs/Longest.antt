-- The runs of differences: their sizes and counts are within what can be read, neighbours differ, and their lines hold them. Assumes nothing.
use Prim.Native.Nat.{ℕ, zero, suc, ◌*◌, ◌^◌, ◌≤◌}
use mathlib.Core.Bool.{Bool, true, false, cond}
use mathlib.Core.List.{List, [], ◌∷◌, ◌++◌, map}
use mathlib.Core.Path.{◌≡◌, refl, ap}
use native.Mathlib.Omega.{arith}
use borrow.Author.Tests.{leb-true}
use lib.Dec.{leb}
use lib.IntN.{ℤ, nat_abs, ◌-ℤ◌}
use lib.ListN.{length}
use Rattle.text.proofs.Cases.{and_both}
use Rattle.signed.specs.Signed.{same_z}
use Rattle.signed.proofs.Sign.{same_z-true, abs_diff}
use Rattle.numeral.specs.declared.Decimal.{Decimal}
use Rattle.print.proofs.Back.{sample_of}
use Rattle.shape_text.specs.Written.{Run, differences_from, on_run, runs_of, run_lines, runs_lines, plain_lines, all_within}
use Rattle.shape_text.proofs.Reread.{HoldAll, no_line, a-line, hold-append}
use Rattle.shape_text.proofs.Figures.{sample-holds}
use Rattle.shape_text.proofs.Counts.{repeats_of, count-holds}

-- ---- Numbers of at most a size
pub data AllIn (most : ℕ) : List ℤ → Type 0 where
  no_number : AllIn most []
  a-number : (z : ℤ) {zs : List ℤ} → nat_abs z ≤ most → AllIn most zs → AllIn most (z ∷ zs)

pub within_all : (zs : List ℤ) → all_within zs ≡ true → AllIn (10 ^ 17) zs
unfolding all_within
within_all [] e = no_number
within_all (z ∷ zs) e =
    let a = and_both (leb (nat_abs z) (10 ^ 17)) (all_within zs) e in
    a-number z (leb-true (nat_abs z) (10 ^ 17) a.0) (within_all zs a.1)

-- a difference of two samples is at most twice as large
pub differences-all : {zs : List ℤ} (p : ℤ) → nat_abs p ≤ 10 ^ 17 → AllIn (10 ^ 17) zs → AllIn (2 * 10 ^ 17) (differences_from p zs)
unfolding differences_from
differences-all p h no_number = no_number
differences-all p h (a-number z k a) = a-number (z -ℤ p) (omega (arith, abs_diff z p)) (differences-all z k a)

pub differences-length : (p : ℤ) (zs : List ℤ) → length (differences_from p zs) ≡ length zs
unfolding differences_from
differences-length p [] = refl
differences-length p (z ∷ zs) = ap suc (differences-length z zs)

-- ---- Runs
-- the first run, if there is one, is of another value
unfoldable pub Unlike : ℤ → List Run → Type 0
Unlike d [] = Unit
Unlike d (r ∷ rs) = same_z d r.value ≡ false

-- runs with at most so many further repeats, each of another value than the next
pub data Longest (most : ℕ) : List Run → Type 0 where
  no_run : Longest most []
  a-run : (r : Run) {rs : List Run} → nat_abs r.value ≤ 2 * 10 ^ 17 → r.more ≤ most → Unlike r.value rs → Longest most rs → Longest most (r ∷ rs)

pub longest-more : {most : ℕ} {rs : List Run} → Longest most rs → Longest (suc most) rs
longest-more no_run = no_run
longest-more (a-run r s c u l) = a-run r s (omega arith) u (longest-more l)

longest-on : {most : ℕ} {rs : List Run} (d : ℤ) → nat_abs d ≤ 2 * 10 ^ 17 → Longest most rs → Longest (suc most) (on_run d rs)
unfolding on_run Unlike
longest-on d h no_run = a-run (record { value = d; more = 0 }) h (omega arith) tt no_run
longest-on {most} d h (a-run r {rs} s c u l) = go (same_z d r.value) refl
  where
    go : (b : Bool) → same_z d r.value ≡ b
        → Longest (suc most) (cond b (record { value = d; more = suc r.more } ∷ rs) (record { value = d; more = 0 } ∷ r ∷ rs))
    go true e = a-run (record { value = d; more = suc r.more }) h (omega arith) (rw (← (same_z-true d r.value e)) at u) (longest-more l)
    go false e = a-run (record { value = d; more = 0 }) h (omega arith) e (a-run r s (omega arith) u (longest-more l))

pub runs-longest : {ds : List ℤ} → AllIn (2 * 10 ^ 17) ds → Longest (length ds) (runs_of ds)
unfolding runs_of
runs-longest no_number = no_run
runs-longest (a-number d h a) = longest-on d h (runs-longest a)

-- ---- What is stored of them
unfoldable pub run_values : ℤ → ℕ → List Decimal
run_values d zero = sample_of d ∷ []
run_values d (suc k) = sample_of d ∷ sample_of d ∷ repeats_of k ∷ []

unfoldable pub runs_values : List Run → List Decimal
runs_values [] = []
runs_values (r ∷ rs) = run_values r.value r.more ++ runs_values rs

run-hold : (d : ℤ) (more : ℕ) → nat_abs d ≤ 2 * 10 ^ 17 → more ≤ 1000000 → HoldAll (run_lines d more) (run_values d more)
unfolding run_lines run_values
run-hold d zero h m = a-line (sample-holds d h) no_line
run-hold d (suc k) h m = a-line (sample-holds d h) (a-line (sample-holds d h) (a-line (count-holds k (omega arith)) no_line))

pub runs-hold : {most : ℕ} {rs : List Run} → most ≤ 1000000 → Longest most rs → HoldAll (runs_lines rs) (runs_values rs)
unfolding runs_lines runs_values
runs-hold h no_run = no_line
runs-hold h (a-run r s c u l) = hold-append (run-hold r.value r.more s (omega arith)) (runs-hold h l)

-- ---- What is stored of plain samples
pub plain-hold : {zs : List ℤ} → AllIn (10 ^ 17) zs → HoldAll (plain_lines zs) (map sample_of zs)
unfolding plain_lines
plain-hold no_number = no_line
plain-hold (a-number z h a) = a-line (sample-holds z (omega arith)) (plain-hold a)
