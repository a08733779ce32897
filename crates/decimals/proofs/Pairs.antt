-- The answers of the functions that make or take a pair, in the words of the definitions. Assumes nothing.
use Rattle.std.proofs.Common.{None, Some, int_eq}
use Prim.Native.Nat.{ℕ, ◌≤◌, ◌<◌}
use mathlib.Core.Bool.{Bool, ◌&&◌}
use mathlib.Core.Path.{◌≡◌}
use borrow.Author.Tests.{le-leb, lt-leb, eq-eqb, ne_eqb}
use lib.IntN.{ℤ, pos, sub_ℕ}
use Rattle.signed.specs.Signed.{signed_of, same_z}
use Rattle.signed.proofs.Sign.{same_z-true, same_z-refl}
use Rattle.std.proofs.lemmas.Bool.Decides.{same_from_decides, Decides-int_eq}
use Rattle.numeral.specs.declared.Decimal.{Decimal}
use Rattle.decimals.specs.Decimal.{same_decimal}
use Rattle.decimals.specs.Inside.{pair_of}

-- ---- A pair
module _ (negative : Bool) (v s : ℕ) where
  pub pair-zero : v ≡ 0 → Some (record { mantissa = pos 0; exponent = pos 0 }) ≡ pair_of negative v s
  unfolding pair_of
  pair-zero e = rw (eq-eqb v 0 e)

  module _ (n : v ≡ 0 → ⊥) where
    pub pair-low : s < 101 → None ≡ pair_of negative v s
    unfolding pair_of
    pair-low h = rw (ne_eqb v 0 n, lt-leb 101 s h)

    pub pair-high : 101 ≤ s → 299 < s → None ≡ pair_of negative v s
    unfolding pair_of
    pair-high h k = rw (ne_eqb v 0 n, le-leb 101 s h, lt-leb s 299 k)

    pub pair-value : (m e : ℤ) → 101 ≤ s → s ≤ 299 → m ≡ signed_of negative v → e ≡ sub_ℕ s 200
        → Some (record { mantissa = m; exponent = e }) ≡ pair_of negative v s
    unfolding pair_of
    pair-value m e h k p q = rw (ne_eqb v 0 n, le-leb 101 s h, le-leb s 299 k, p, q)

-- ---- Two decimals: what `==` says of numbers
int-same : (a b : ℤ) → int_eq a b ≡ same_z a b
int-same a b = same_from_decides (int_eq a b) (same_z a b) (Decides-int_eq a b) (same_z-true a b, λ (e : a ≡ b). rw e (same_z-refl b))

pub same-eq : (a b : Decimal) → int_eq a.mantissa b.mantissa && int_eq a.exponent b.exponent ≡ same_decimal a b
unfolding same_decimal
same-eq a b = rw (int-same a.mantissa b.mantissa, int-same a.exponent b.exponent)
