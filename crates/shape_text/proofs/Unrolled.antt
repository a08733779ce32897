-- Stored runs expand to the differences that they were made of. Assumes nothing.
use Rattle.std.proofs.Common.{Some}
use Prim.Native.Nat.{ℕ, zero, suc, ◌*◌, ◌^◌, ◌≤◌}
use mathlib.Core.Bool.{Bool, true, false, cond}
use mathlib.Core.List.{List, ◌∷◌, ◌++◌, map}
use mathlib.Core.Path.{◌≡◌, refl, ap, sym, ◌∙◌}
use mathlib.Core.Logic.{⊎_elim}
use native.Mathlib.Omega.{arith}
use lib.IntN.{ℤ, nat_abs}
use lib.ListN.{length}
use Rattle.text.proofs.Cases.{true-or-false}
use Rattle.signed.specs.Signed.{same_z}
use Rattle.signed.proofs.Sign.{same_z-true, same_z-false}
use Rattle.decimals.specs.Decimal.{same_decimal}
use Rattle.numeral.specs.Worth.{rounded_of}
use Rattle.numeral.specs.declared.Decimal.{Decimal}
use Rattle.decimals.proofs.Kept.{same-yes, same_true}
use Rattle.print.proofs.Back.{sample_of, steps_back}
use Rattle.expanding.specs.Expand.{next, repeated, counted, fresh_of, repeat_of, pair_of}
use Rattle.shape_text.specs.Written.{Run, on_run, runs_of}
use Rattle.shape_text.proofs.Counts.{count-worth}
use Rattle.shape_text.proofs.Longest.{AllIn, no_number, a-number, Unlike, Longest, no_run, a-run, longest-more, runs-longest, run_values, runs_values}
use Rattle.shape_text.proofs.Sums.{traced}

-- ---- Different numbers are different decimals
steps-same : (a b : ℤ) → Some a ≡ Some b → a ≡ b
steps-same a b e = cc

sample-apart : (a b : ℤ) → nat_abs a ≤ 2 * 10 ^ 17 → nat_abs b ≤ 2 * 10 ^ 17 → same_z a b ≡ false → same_decimal (sample_of b) (sample_of a) ≡ false
sample-apart a b h k n =
    ⊎_elim (λ (e : same_decimal (sample_of b) (sample_of a) ≡ true).
    let f : sample_of b ≡ sample_of a = same_true (sample_of b) (sample_of a) e in
    absurd (same_z-false a b n (steps-same a b (sym (steps_back a h) ∙ ap rounded_of (sym f) ∙ steps_back b k))))
    (λ (e : same_decimal (sample_of b) (sample_of a) ≡ false). e)
    (true-or-false (same_decimal (sample_of b) (sample_of a)))

-- ---- Behind a value, another one is fresh
other-fresh : (last : Decimal) (d : ℤ) (more : ℕ) (rest : List Decimal) → same_decimal (sample_of d) last ≡ false
    → repeat_of last (run_values d more ++ rest) ≡ fresh_of (run_values d more ++ rest)
unfolding fresh_of repeat_of run_values
other-fresh last d zero rest e = rw e
other-fresh last d (suc k) rest e = rw e

unlike-fresh : {most : ℕ} {rs : List Run} (d : ℤ) → nat_abs d ≤ 2 * 10 ^ 17 → Unlike d rs → Longest most rs
    → repeat_of (sample_of d) (runs_values rs) ≡ fresh_of (runs_values rs)
unfolding Unlike runs_values
unlike-fresh d h n no_run = unfold fresh_of repeat_of in refl
unlike-fresh d h n (a-run r {rs} s c u l) =
    other-fresh (sample_of d) r.value r.more (runs_values rs) (sample-apart d r.value h s n)

-- ---- A run is as many repeats
run-fresh : (d : ℤ) (more : ℕ) (rest : List Decimal) → more ≤ 1000000 → repeat_of (sample_of d) rest ≡ fresh_of rest
    → fresh_of (run_values d more ++ rest) ≡ repeated (suc more) (sample_of d) (fresh_of rest)
unfolding fresh_of repeat_of pair_of counted repeated run_values
run-fresh d zero rest m e = rw e
run-fresh d (suc k) rest m e = rw (same-yes (sample_of d), count-worth k (omega arith))

module _ {most : ℕ} (m : most ≤ 1000000) where
  first-fresh : {rs : List Run} {r : Run} → Longest most (r ∷ rs)
      → fresh_of (runs_values (r ∷ rs)) ≡ repeated (suc r.more) (sample_of r.value) (fresh_of (runs_values rs))
  unfolding runs_values
  first-fresh (a-run r {rs} s c u l) = run-fresh r.value r.more (runs_values rs) (omega arith) (unlike-fresh r.value s u l)

  -- one difference more in front is one value more in front
  on-fresh : {rs : List Run} (d : ℤ) → Longest most rs → Longest most (on_run d rs)
      → fresh_of (runs_values (on_run d rs)) ≡ next (sample_of d) (fresh_of (runs_values rs))
  unfolding on_run
  on-fresh d no_run k = first-fresh k ∙ (unfold repeated in refl)
  on-fresh d (a-run r {rs} s c u l) k = go (same_z d r.value) refl k
    where
      go : (b : Bool) → same_z d r.value ≡ b
          → Longest most (cond b (record { value = d; more = suc r.more } ∷ rs) (record { value = d; more = 0 } ∷ r ∷ rs))
          → fresh_of (runs_values (cond b (record { value = d; more = suc r.more } ∷ rs) (record { value = d; more = 0 } ∷ r ∷ rs)))
          ≡ next (sample_of d) (fresh_of (runs_values (r ∷ rs)))
      go true e k = rw (first-fresh (a-run r s c u l), ← (same_z-true d r.value e)) (first-fresh k ∙ (unfold repeated in refl))
      go false e k = first-fresh k ∙ (unfold repeated in refl)

pub runs-fresh : {ds : List ℤ} → length ds ≤ 1000000 → AllIn (2 * 10 ^ 17) ds → fresh_of (runs_values (runs_of ds)) ≡ traced (map sample_of ds)
unfolding runs_of traced
runs-fresh m no_number = unfold runs_values fresh_of in refl
runs-fresh m (a-number d h a) =
    on-fresh m d (longest-more (runs-longest a)) (runs-longest (a-number d h a)) ∙ ap (next (sample_of d)) (runs-fresh (omega arith) a)
