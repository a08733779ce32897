-- The loop that reads digits: what is known where it stands at i with the value v so far, and the laws of a start, a turn and the end.
-- Assumes nothing.
use Prim.Native.Nat.{ℕ, ◌+◌, ◌*◌, ◌-◌, ◌^◌, ◌<◌, ◌≤◌}
use mathlib.Core.List.{List}
use mathlib.Core.Bool.{true, false}
use mathlib.Core.Path.{◌≡◌, refl, sym, ◌∙◌}
use native.Mathlib.Nat.{lt_of_lt_of_le, pow-le-pow_right, pow-suc}
use native.Mathlib.Numerals.{add-one}
use native.Mathlib.Omega.{arith}
use lib.Dec.{lit<}
use lib.ListN.{length, get_or, drop, drop_of_length-le}
use Rattle.numeral.specs.Digits.{is_digit, all_digits, value_from}
use Rattle.numeral.proofs.Digits.{digit-most, all_digits-at, value_from-at}

pub record Reading (s : List ℕ) (i v : ℕ) : Type 0 where
  pub inside : i ≤ length s
  pub all : all_digits (drop i s) ≡ all_digits s
  pub value : value_from v (drop i s) ≡ value_from 0 s
  pub size : v < 10 ^ i

pub start : (s : List ℕ) → Reading s 0 0
start s = record { inside = omega arith; all = refl; value = refl; size = lit< tt }

pub turn : (s : List ℕ) (i v : ℕ) → Reading s i v → i < length s → is_digit (get_or s i 0) ≡ true → Reading s (i + 1) (v * 10 + (get_or s i 0 - 48))
turn s i v r h e =
    let q = digit-most (get_or s i 0) e in
    record {
      inside = omega arith;
      all = rw (← r.all, all_digits-at s i h, e);
      value = sym (value_from-at v s i h) ∙ r.value;
      size = let k = r.size in rw (add-one, pow-suc 10 i) (omega arith);
    }

pub other : (s : List ℕ) (i v : ℕ) → Reading s i v → i < length s → is_digit (get_or s i 0) ≡ false → all_digits s ≡ false
other s i v r h e = sym r.all ∙ rw (all_digits-at s i h, e)

-- at the end nothing is left
pub end : (s : List ℕ) (i v : ℕ) → Reading s i v → length s ≤ i → (all_digits s ≡ true) × (value_from 0 s ≡ v)
unfolding all_digits value_from
end s i v r h = (sym (rw (drop_of_length-le s h) at r.all), sym (rw (drop_of_length-le s h) at r.value))

-- a number of at most 10 digits
pub small : (s : List ℕ) (i v : ℕ) → Reading s i v → i ≤ 10 → v < 10000000000
small s i v r k = lt_of_lt_of_le r.size (pow-le-pow_right {n = 10} (lit< tt) k)
