-- Laws of a sign, of the part of a text before the first of two bytes, of a mantissa's two parts, and of the digits in front. Assumes nothing.
use Prim.Native.Nat.{ℕ, suc, ◌≤◌}
use mathlib.Core.Logic.{⊎_elim}
use mathlib.Core.List.{List, [], ◌∷◌, ◌++◌}
use mathlib.Core.Bool.{Bool, true, false, cond, ◌||◌, false≢true}
use mathlib.Core.Path.{◌≡◌, refl, ap, ◌∙◌, sym}
use native.Mathlib.Omega.{arith}
use native.Mathlib.Numerals.{add-one}
use borrow.Author.Tests.{ne_eqb}
use lib.ListN.{length, drop}
use lib.Dec.{eqb}
use Rattle.numeral.specs.Digits.{is_digit, all_digits}
use Rattle.numeral.proofs.Digits.{digit_low, digit-high, sign_le}
use Rattle.decimals.specs.Decimal.{up_to, whole, fraction, digits, mantissa_part}
use Rattle.decimals.specs.Inside.{sign_of}
use Rattle.decimals.specs.declared.Sign.{Sign}
use Rattle.text.proofs.Cases.{and_both, true-or-false}

-- ---- a sign is no longer than the text
pub sign_fits : (s : List ℕ) (g : Sign) → g ≡ sign_of s → g.len ≤ length s
unfolding sign_of
sign_fits s g e = rw (ap (λ (x : Sign). x.len) e) (sign_le s)

-- ---- nor is a part
up_to-le : (a b : ℕ) (s : List ℕ) → length (up_to a b s) ≤ length s
unfolding up_to
up_to-le a b [] = omega arith
up_to-le a b (x ∷ s) = go (eqb x a || eqb x b) (up_to-le a b s)
  where
    go : (t : Bool) → length (up_to a b s) ≤ length s → length (cond t [] (x ∷ up_to a b s)) ≤ suc (length s)
    go true h = omega arith
    go false h = omega arith

pub part-le : (s : List ℕ) → length (mantissa_part s) ≤ length s
unfolding mantissa_part
part-le s = up_to-le 101 69 s

-- ---- a byte that is not looked for
up_to-next : (a b x : ℕ) (s : List ℕ) → (x ≡ a → ⊥) → (x ≡ b → ⊥) → up_to a b (x ∷ s) ≡ x ∷ up_to a b s
unfolding up_to
up_to-next a b x s p q = rw (ne_eqb x a p, ne_eqb x b q)

pub part-next : (x : ℕ) (s : List ℕ) → (x ≡ 101 → ⊥) → (x ≡ 69 → ⊥) → mantissa_part (x ∷ s) ≡ x ∷ mantissa_part s
unfolding mantissa_part
part-next x s p q = up_to-next 101 69 x s p q

fraction-next : (x : ℕ) (m : List ℕ) → (x ≡ 46 → ⊥) → fraction (x ∷ m) ≡ fraction m
unfolding fraction whole
fraction-next x m p = rw (up_to-next 46 46 x m p p, add-one (length (x ∷ up_to 46 46 m)), add-one (length (up_to 46 46 m)))

pub digits-next : (x : ℕ) (m : List ℕ) → (x ≡ 46 → ⊥) → digits (x ∷ m) ≡ x ∷ digits m
unfolding digits whole
digits-next x m p = rw (up_to-next 46 46 x m p p, fraction-next x m p)

-- nothing, and a point
pub fraction-none : fraction [] ≡ []
unfolding fraction whole up_to
fraction-none = refl

pub digits-none : digits [] ≡ []
unfolding digits fraction whole up_to
digits-none = refl

pub fraction-point : (m : List ℕ) → fraction (46 ∷ m) ≡ m
unfolding fraction whole up_to
fraction-point m = refl

pub digits-point : (m : List ℕ) → digits (46 ∷ m) ≡ m
unfolding digits fraction whole up_to
digits-point m = refl

-- ---- digits in front
pub digit_not : (x a : ℕ) → is_digit x ≡ true → is_digit a ≡ false → x ≡ a → ⊥
digit_not x a d n e = false≢true (sym n ∙ ap is_digit (sym e) ∙ d)

not-point : (x : ℕ) → is_digit x ≡ true → x ≡ 46 → ⊥
not-point x d = digit_not x 46 d (digit_low 46 (omega arith))

pub digits-front : (d m : List ℕ) → all_digits d ≡ true → digits (d ++ m) ≡ d ++ digits m
unfolding all_digits
digits-front [] m e = refl
digits-front (x ∷ d) m e =
    let t = and_both (is_digit x) (all_digits d) e in
    digits-next x (d ++ m) (not-point x t.0) ∙ ap (λ (l : List ℕ). x ∷ l) (digits-front d m t.1)

pub fraction-front : (d m : List ℕ) → all_digits d ≡ true → fraction (d ++ m) ≡ fraction m
unfolding all_digits
fraction-front [] m e = refl
fraction-front (x ∷ d) m e =
    let t = and_both (is_digit x) (all_digits d) e in
    fraction-next x (d ++ m) (not-point x t.0) ∙ fraction-front d m t.1

-- the digits in front, and what stands behind them
unfoldable pub lead : List ℕ → List ℕ
lead [] = []
lead (b ∷ s) = cond (is_digit b) (b ∷ lead s) []

abbrev pub rest : List ℕ → List ℕ
rest s = drop (length (lead s)) s

pub lead-more : (b : ℕ) (s : List ℕ) → is_digit b ≡ true → lead (b ∷ s) ≡ b ∷ lead s
unfolding lead
lead-more b s d = rw d

pub lead-none : (b : ℕ) (s : List ℕ) → is_digit b ≡ false → lead (b ∷ s) ≡ []
unfolding lead
lead-none b s d = rw d

pub lead-digits : (s : List ℕ) → all_digits (lead s) ≡ true
unfolding lead all_digits
lead-digits [] = refl
lead-digits (b ∷ s) =
    ⊎_elim (λ (d : is_digit b ≡ true). rw d (rw (d, lead-digits s))) (λ (d : is_digit b ≡ false). rw d) (true-or-false (is_digit b))

pub part-front : (s : List ℕ) → mantissa_part s ≡ lead s ++ mantissa_part (rest s)
part-front [] = unfold lead mantissa_part up_to in refl
part-front (b ∷ s) =
    ⊎_elim (λ (d : is_digit b ≡ true).
    rw (lead-more b s d)
    (part-next b s (digit_not b 101 d (digit-high 101 (omega arith))) (digit_not b 69 d (digit-high 69 (omega arith)))
    ∙ ap (λ (l : List ℕ). b ∷ l) (part-front s)))
    (λ (d : is_digit b ≡ false). rw (lead-none b s d))
    (true-or-false (is_digit b))
