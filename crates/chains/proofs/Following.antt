-- Chains, by the answers of the code's tests. Assumes nothing.
use Prim.Native.Nat.{ℕ, suc, ◌-◌, ◌≤◌, ◌<◌}
use mathlib.Core.Bool.{true, false}
use mathlib.Core.List.{List}
use mathlib.Core.Path.{◌≡◌, sym, ap, ◌∙◌}
use native.Mathlib.Omega.{arith}
use borrow.Author.Tests.{lt-ltb, le-ltb}
use lib.IntN.{ℤ}
use Rattle.chains.specs.Chains.{next_entry, exceeds_of}

module _ (rows : List ℤ) (n left k : ℕ) where
  pub exceeds-all : left ≡ 0 → true ≡ exceeds_of rows n left k
  unfolding exceeds_of
  exceeds-all e = rw e

  module _ (h : left ≡ 0 → ⊥) (next : ℕ) (p : next ≡ next_entry rows n k) where
    one : left ≡ suc (left - 1)
    one = omega arith

    pub exceeds-on : next < n → exceeds_of rows n (left - 1) next ≡ exceeds_of rows n left k
    unfolding exceeds_of
    exceeds-on l = sym (ap (λ (m : ℕ). exceeds_of rows n m k) one ∙ rw (← p, lt-ltb next n l))

    pub exceeds-not : n ≤ next → false ≡ exceeds_of rows n left k
    unfolding exceeds_of
    exceeds-not l = sym (ap (λ (m : ℕ). exceeds_of rows n m k) one ∙ rw (← p, le-ltb next n l))
