-- One law over all rules: the first row that breaks a rule is found, exactly. And what has passed: each checked reference meets exactly one row.
-- Assumes nothing.
use Prim.Native.Nat.{ℕ, ◌<◌}
use mathlib.Core.Bool.{Bool, false}
use mathlib.Core.List.{List}
use mathlib.Core.Path.{◌≡◌}
use native.Mathlib.Omega.{arith}
use lib.IntN.{ℤ, pos}
use Rattle.signed.specs.Signed.{same_z}
use Rattle.unit.specs.declared.Rasters.{Rasters}
use Rattle.shape.specs.declared.Edition.{Edition}
use Rattle.tables.specs.Tables.{first_such, number_at, first_row, is_again, first_again, OnlyRow}
use Rattle.tables.proofs.Found.{FirstIs, first-is, none-again}
use Rattle.references.specs.References.{ref_at}
use Rattle.references.proofs.Meeting.{reference-met}
use Rattle.rules.specs.Rules.{is_broken, first_broken}
use Rattle.rules.specs.declared.Rule.{Rule}
use Rattle.rules.specs.declared.Rule.TheVariants.{Reference}

-- where the first row for which something holds is n, it holds for none of n rows
none-such : (holds : ℕ → Bool) (n : ℕ) → first_such holds 0 n ≡ n → (k : ℕ) → k < n → holds k ≡ false
none-such holds n e k h = let f = first-is holds 0 n in f.before k (omega arith) (rw e h)

module _ (e : Edition) (q : Rasters) (rows : List ℤ) (n : ℕ) (samples : List ℤ) where
  -- ---- it is one of the rows or n, that row breaks the rule, and none before it does
  pub broken-first : (rule : Rule) → FirstIs (is_broken rule e q rows n samples) 0 n (first_broken rule e q rows n samples)
  unfolding first_broken
  broken-first rule = first-is (is_broken rule e q rows n samples) 0 n

  pub none-broken : (rule : Rule) → first_broken rule e q rows n samples ≡ n → (k : ℕ) → k < n → is_broken rule e q rows n samples k ≡ false
  unfolding first_broken
  none-broken rule = none-such (is_broken rule e q rows n samples) n

  -- ---- "each checked reference meets exactly one row": number c of row k, where it refers to a class and is not 0
  pub each-met : first_again rows n ≡ n → first_broken Reference e q rows n samples ≡ n → (k : ℕ) → k < n → (c : ℕ) → c < 12 → same_z (ref_at e rows n k c) (pos 0) ≡ false
      → same_z (number_at rows k c) (pos 0) ≡ false
      → OnlyRow rows n (ref_at e rows n k c) (number_at rows k c) (first_row rows n (ref_at e rows n k c) (number_at rows k c))
  unfolding first_again is_broken
  each-met once met k h c l a b = reference-met e rows n k (none-again rows n (none-such (is_again rows) n once)) (none-broken Reference met k h) c l a b
