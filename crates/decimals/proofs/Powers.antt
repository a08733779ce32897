-- Laws of the exponent, which the code counts from 200 on. Assumes nothing.
use Rattle.std.proofs.Common.{None, Option, Some}
use Prim.Native.Nat.{ℕ, ◌+◌, ◌-◌, ◌≤◌, ◌<◌}
use mathlib.Core.List.{List, [], ◌∷◌}
use mathlib.Core.Bool.{Bool, true, false, cond, ◌&&◌}
use mathlib.Core.Path.{◌≡◌, refl, ap, ◌∙◌, sym}
use mathlib.Core.Logic.{⊎_elim}
use native.Mathlib.Omega.{arith}
use borrow.Author.Tests.{le-leb, lt-leb, leb-true}
use lib.Dec.{leb}
use lib.IntN.{sub_ℕ}
use lib.ListN.{length, drop}
use Rattle.signed.specs.Signed.{signed_of}
use Rattle.signed.proofs.Difference.{sub_same, sub-above}
use Rattle.signed.proofs.Sign.{signed_sub}
use Rattle.numeral.specs.Digits.{all_digits, value_of, is_minus, unsigned}
use Rattle.numeral.specs.Integer.{integer_of}
use Rattle.decimals.specs.Decimal.{is_exponent, exponent_of}
use Rattle.decimals.specs.Inside.{biased, power_of}
use Rattle.text.proofs.Cases.{and_both, true-or-false, cond_no}
use Rattle.numeral.proofs.Integer.{not-bad, cond_value, integer-inv, integer-yes, integer-value, range-value, value-below}

-- ---- The outcomes, by the parts that the code cuts: t behind the e, d behind the sign
-- one or two digits
abbrev pub is_short : List ℕ → Bool
is_short d = leb 1 (length d) && leb (length d) 2 && all_digits d

abbrev pub power_at : Bool → List ℕ → Option ℕ
power_at negative d = cond (is_short d) (Some (biased negative (value_of d))) None

pub power-none : (s : List ℕ) → length s ≡ 0 → Some 200 ≡ power_of s
unfolding power_of
power-none [] e = refl
power-none (b ∷ s) e = absurd (omega arith)

pub power-some : (s t d : List ℕ) → 0 < length s → t ≡ drop 1 s → d ≡ unsigned t → power_at (is_minus t) d ≡ power_of s
unfolding power_of
power-some [] t d h e f = absurd (omega arith)
power-some (b ∷ s) t d h e f = rw (f, e)

pub short-long : (d : List ℕ) → 2 < length d → is_short d ≡ false
short-long d h = rw (le-leb 1 (length d) (omega arith), lt-leb (length d) 2 h)

pub short-value : (d : List ℕ) (n : ℕ) → length d ≤ 2 → integer_of 0 99 d ≡ Some n → (is_short d ≡ true) × (value_of d ≡ n)
short-value d n h e =
    let i = integer-inv 0 99 d n e in
    (rw (le-leb 1 (length d) i.some, le-leb (length d) 2 h, i.all), i.worth)

-- one or two digits are worth at most 99, so the range never refuses
pub short-most : (d : List ℕ) → is_short d ≡ true → value_of d ≤ 99
short-most d e =
    let a = and_both (leb 1 (length d) && leb (length d) 2) (all_digits d) e in
    let b = and_both (leb 1 (length d)) (leb (length d) 2) a.0 in
    omega (arith, value-below d 2 a.1 (leb-true (length d) 2 b.1))

short-integer : (d : List ℕ) → is_short d ≡ true → integer_of 0 99 d ≡ Some (value_of d)
short-integer d e =
    let a = and_both (leb 1 (length d) && leb (length d) 2) (all_digits d) e in
    let b = and_both (leb 1 (length d)) (leb (length d) 2) a.0 in
    let l = leb-true (length d) 2 b.1 in
    sym (range-value 0 99 (value_of d) (omega arith) (short-most d e)
    ∙ integer-value 0 99 d (integer-yes d (leb-true 1 (length d) b.0) (omega arith) a.1))

pub short-bad : (d : List ℕ) → integer_of 0 99 d ≡ None → is_short d ≡ false
short-bad d e =
    ⊎_elim (λ (t : is_short d ≡ true). absurd (not-bad (value_of d) (sym e ∙ short-integer d t))) (λ f. f) (true-or-false (is_short d))

-- ---- What a good exponent says
pub record PowerIs (s : List ℕ) (n : ℕ) : Type 0 where
  pub form : is_exponent s ≡ true
  pub worth : exponent_of s ≡ sub_ℕ n 200
  pub least : 101 ≤ n
  pub most : n ≤ 299

biased-least : (b : Bool) (n : ℕ) → n ≤ 99 → (101 ≤ biased b n) × (biased b n ≤ 299)
unfolding biased
biased-least true n h = (omega arith, omega arith)
biased-least false n h = (omega arith, omega arith)

biased-worth : (b : Bool) (n : ℕ) → n ≤ 99 → signed_of b n ≡ sub_ℕ (biased b n) 200
unfolding biased
biased-worth true n h = signed_sub true n ∙ sub_same 0 n (200 - n) 200 (omega arith)
biased-worth false n h = signed_sub false n ∙ sub_same n 0 (200 + n) 200 (omega arith)

pub power-inv : (s : List ℕ) (n : ℕ) → power_of s ≡ Some n → PowerIs s n
unfolding power_of is_exponent exponent_of
power-inv [] n e =
    let q : ◌≡◌ {A = ℕ} 200 n = cc in
    record { form = refl; worth = rw (← q) (sym (sub-above 200 200 (omega arith))); least = omega arith; most = omega arith }
power-inv (b ∷ t) n e =
    let d = unsigned t in
    let a = cond_value (is_short d) (biased (is_minus t) (value_of d)) n e in
    let m = short-most d a.0 in
    let r = biased-least (is_minus t) (value_of d) m in
    record {
      form = a.0;
      worth = biased-worth (is_minus t) (value_of d) m ∙ ap (λ (k : ℕ). sub_ℕ k 200) a.1;
      least = rw (← a.1) r.0;
      most = rw (← a.1) r.1;
    }

pub power-bad : (s : List ℕ) → power_of s ≡ None → is_exponent s ≡ false
unfolding power_of is_exponent
power-bad [] e = absurd (not-bad 200 (sym e))
power-bad (b ∷ t) e = cond_no (is_short (unsigned t)) None (λ h. not-bad (biased (is_minus t) (value_of (unsigned t))) (sym h)) e
