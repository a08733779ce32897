-- `decimals::sign_of` meets its contract: by the first byte. Assumes nothing.
use Rattle.std.proofs.Common.{ℕ, ◌<◌, ◌≡◌, ◌∙◌, sym, List, Bool, true, false, length, get_or, arith}
use borrow.Author.Tests.{eq-eqb, ne_eqb, ltb-false}
use Rattle.numeral.specs.Digits.{is_minus, sign_len}
use Rattle.numeral.proofs.Digits.{minus-none, minus-some, sign-none, sign-minus, sign-plus, sign-other}
use Rattle.decimals.specs.Inside.{sign_of}
use Rattle.decimals.proofs.sign_of.Goals as goal

both : (s : List ℕ) (m : Bool) (n : ℕ) → m ≡ is_minus s → n ≡ sign_len s → record { minus = m; len = n } ≡ sign_of s
unfolding sign_of
both s m n p q = rw (p, q)

minus-yes : (s : List ℕ) → 0 < length s → get_or s 0 0 ≡ 45 → true ≡ is_minus s
minus-yes s h e = sym (eq-eqb (get_or s 0 0) 45 e) ∙ minus-some s h

minus-no : (s : List ℕ) → 0 < length s → (get_or s 0 0 ≡ 45 → ⊥) → false ≡ is_minus s
minus-no s h e = sym (ne_eqb (get_or s 0 0) 45 e) ∙ minus-some s h

pub returns-in-Some-eq45 : goal.returns-in-Some-eq45
returns-in-Some-eq45 c =
    let h = c.in-Some-eq45.ensures.item.3 in
    let e = sym (h.1 0) ∙ c.in-Some-eq45.field-0-test in
    both _ _ _ (minus-yes _ h.0 e) (sign-minus _ h.0 e)

pub returns-in-Some-eq43 : goal.returns-in-Some-eq43
returns-in-Some-eq43 c =
    let h = c.in-Some-eq43.ensures.item.3 in
    let e = sym (h.1 0) ∙ c.in-Some-eq43.field-0-test in
    both _ _ _ (minus-no _ h.0 (omega arith)) (sign-plus _ h.0 (omega arith) e)

pub returns-in-Some : goal.returns-in-Some
returns-in-Some c =
    let h = c.in-Some.ensures.item.3 in
    let e = h.1 0 in
    let n = rw e at c.in-Some.field-0-test.0.1 in
    both _ _ _ (minus-no _ h.0 n) (sign-other _ n (rw e at c.in-Some.field-0-test.1))

pub returns-in-None : goal.returns-in-None
returns-in-None c =
    let e = ltb-false _ _ (sym c.in-None.ensures.item.0) in
    both _ _ _ (minus-none _ (omega arith)) (sign-none _ (omega arith))
