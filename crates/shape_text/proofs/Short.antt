-- The stored lines of samples are short. Assumes nothing.
use Prim.Native.Nat.{ℕ, zero, suc, ◌*◌, ◌^◌, ◌≤◌}
use mathlib.Core.Bool.{Bool, true, false, cond}
use mathlib.Core.List.{List, []}
use mathlib.Core.Path.{◌≡◌, refl}
use native.Mathlib.Omega.{arith}
use lib.IntN.{ℤ, pos, nat_abs}
use lib.ListN.{length}
use Rattle.text.proofs.Short.{Short, short_none, short-line, short-append}
use Rattle.print.specs.Printed.{digits_of, sample_text}
use Rattle.print.proofs.Digits.{digits-within}
use Rattle.print.proofs.Back.{sample_of, sample-back}
use Rattle.shape.specs.declared.Edition.{Edition}
use Rattle.shape_text.specs.Written.{Run, run_lines, runs_lines, packed_lines, plain_lines, is_plain_text, stored_lines, ended_lines, text_of, all_within, stored_text}
use Rattle.shape_text.proofs.Figures.{decimal-short}
use Rattle.shape_text.proofs.Lines.{ended-append}
use Rattle.shape_text.proofs.Longest.{AllIn, no_number, a-number, within_all, differences-all, differences-length, Longest, no_run, a-run, runs-longest}

-- ---- a sample and a count
sample-short : (z : ℤ) → nat_abs z ≤ 2 * 10 ^ 17 → length (sample_text z) ≤ 1024
sample-short z h = let l = decimal-short (sample_text z) (sample_of z) (sample-back z h) in omega arith

count-short : (n : ℕ) → n ≤ 2 ^ 63 → length (digits_of n) ≤ 1024
count-short n h = let l = digits-within 18 n (omega arith) in omega arith

-- ---- plain lines, and those of runs
plain-short : {zs : List ℤ} → AllIn (10 ^ 17) zs → Short (ended_lines (plain_lines zs))
unfolding ended_lines plain_lines
plain-short no_number = short_none
plain-short (a-number z h a) = short-line (sample_text z) (sample-short z (omega arith)) (plain-short a)

run_short : (d : ℤ) (more : ℕ) → nat_abs d ≤ 2 * 10 ^ 17 → more ≤ 2 ^ 63 → Short (ended_lines (run_lines d more))
unfolding ended_lines run_lines
run_short d zero h m = short-line (sample_text d) (sample-short d h) short_none
run_short d (suc k) h m = short-line (sample_text d) (sample-short d h) (short-line (sample_text d) (sample-short d h) (short-line (digits_of k) (count-short k (omega arith)) short_none))

runs-short : {most : ℕ} {rs : List Run} → most ≤ 2 ^ 63 → Longest most rs → Short (ended_lines (runs_lines rs))
unfolding runs_lines
runs-short h no_run = unfold ended_lines in short_none
runs-short h (a-run r {rs} s c u l) =
    rw (ended-append (run_lines r.value r.more) (runs_lines rs)) (short-append (run_short r.value r.more s (omega arith)) (runs-short h l))

-- ---- in either form, where they are not too many
module _ (edition : Edition) (zs : List ℤ) (few : length zs ≤ 2 ^ 63) where
  packed-short : all_within zs ≡ true → Short (ended_lines (packed_lines zs))
  unfolding packed_lines
  packed-short w =
      let n = differences-length (pos 0) zs in
      runs-short (omega arith) (runs-longest (differences-all (pos 0) (omega arith) (within_all zs w)))

  text-short : all_within zs ≡ true → Short (text_of edition zs)
  unfolding text_of stored_lines
  text-short w = go (is_plain_text edition (length (packed_lines zs)) (length zs))
    where
      go : (b : Bool) → Short (ended_lines (cond b (plain_lines zs) (packed_lines zs)))
      go true = plain-short (within_all zs w)
      go false = packed-short w

  pub stored_short : Short (stored_text edition zs)
  unfolding stored_text
  stored_short = go (all_within zs) refl
    where
      go : (b : Bool) → all_within zs ≡ b → Short (cond b (text_of edition zs) [])
      go true e = text-short e
      go false e = short_none
