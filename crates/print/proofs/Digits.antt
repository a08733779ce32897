-- Laws of printed digits: one at a time from the end, how many they are, and that they read back as the number. Assumes nothing.
use Prim.Native.Nat.{ℕ, zero, suc, ◌+◌, ◌/◌, ◌%◌, ◌<◌, ◌≤◌, ◌^◌}
use mathlib.Core.List.{List, [], ◌∷◌, ◌++◌}
use mathlib.Core.Bool.{true}
use mathlib.Core.Path.{◌≡◌, refl, ap, ◌∙◌, sym}
use mathlib.Core.Logic.{⊎_elim}
use native.Mathlib.Omega.{arith}
use native.Mathlib.Nat.{pow-suc}
use borrow.Author.Tests.{lt-ltb, le-ltb}
use lib.ListN.{length, length-append}
use Rattle.numeral.specs.Digits.{all_digits, value_of}
use Rattle.text.proofs.Cases.{lt-or-ge}
use Rattle.numeral.proofs.Digits.{all_digits-append, value_from-append, all_digits-one, value_from-one}
use Rattle.print.specs.Printed.{digits_in, digits_of}

-- ---- One digit, and one more
short : (k n : ℕ) → n < 10 → digits_in k n ≡ (48 + n) ∷ []
unfolding digits_in
short zero n h = refl
short (suc k) n h = simp (lt-ltb n 10 h)

long : (k n : ℕ) → 10 ≤ n → digits_in (suc k) n ≡ digits_in k (n / 10) ++ ((48 + n % 10) ∷ [])
unfolding digits_in
long k n h = simp (le-ltb n 10 h)

-- every bound that is large enough gives the same digits
same : (k j n : ℕ) → n ≤ k → n ≤ j → digits_in k n ≡ digits_in j n
same zero j n p q = short zero n (omega arith) ∙ sym (short j n (omega arith))
same (suc k) zero n p q = short (suc k) n (omega arith) ∙ sym (short zero n (omega arith))
same (suc k) (suc j) n p q =
    ⊎_elim (λ (h : n < 10). short (suc k) n h ∙ sym (short (suc j) n h))
    (λ (h : 10 ≤ n). long k n h ∙ ap (λ (l : List ℕ). l ++ ((48 + n % 10) ∷ [])) (same k j (n / 10) (omega arith) (omega arith)) ∙ sym (long j n h))
    (lt-or-ge n 10)

-- ---- the two laws by which a printer goes
pub digits-one : (n : ℕ) → n < 10 → digits_of n ≡ (48 + n) ∷ []
unfolding digits_of
digits-one n h = short n n h

pub digits_more : (n : ℕ) → 10 ≤ n → digits_of n ≡ digits_of (n / 10) ++ ((48 + n % 10) ∷ [])
unfolding digits_of
digits_more n h =
    same n (suc n) n (omega arith) (omega arith)
    ∙ long n n h
    ∙ ap (λ (l : List ℕ). l ++ ((48 + n % 10) ∷ [])) (same n (n / 10) (n / 10) (omega arith) (omega arith))

-- a number below 10 ^ k has at most k digits (1 where k is 0)
pub digits-within : (k n : ℕ) → n < 10 ^ suc k → length (digits_of n) ≤ suc k
digits-within zero n h = rw (digits-one n (omega arith)) (omega arith)
digits-within (suc k) n h =
    ⊎_elim (λ (l : n < 10). rw (digits-one n l) (omega arith))
    (λ (l : 10 ≤ n).
    let r : length (digits_of (n / 10)) ≤ suc k = digits-within k (n / 10) (let e = pow-suc 10 (suc k) in omega arith) in
    rw (digits_more n l, length-append) (omega arith))
    (lt-or-ge n 10)

-- ---- They read back
-- k bounds n: the induction goes by n / 10
all_in : (k n : ℕ) → n ≤ k → all_digits (digits_of n) ≡ true
all_in zero n p = rw (digits-one n (omega arith)) (all_digits-one n (omega arith))
all_in (suc k) n p =
    ⊎_elim (λ (h : n < 10). rw (digits-one n h) (all_digits-one n h))
    (λ (h : 10 ≤ n). rw (digits_more n h, all_digits-append, all_in k (n / 10) (omega arith)) (all_digits-one (n % 10) (omega arith)))
    (lt-or-ge n 10)

value_in : (k n : ℕ) → n ≤ k → value_of (digits_of n) ≡ n
value_in zero n p = rw (digits-one n (omega arith), value_from-one) (omega arith)
value_in (suc k) n p =
    ⊎_elim (λ (h : n < 10). rw (digits-one n h, value_from-one) (omega arith))
    (λ (h : 10 ≤ n). rw (digits_more n h, value_from-append, value_in k (n / 10) (omega arith), value_from-one) (omega arith))
    (lt-or-ge n 10)

length-in : (k n : ℕ) → n ≤ k → 1 ≤ length (digits_of n)
length-in zero n p = rw (digits-one n (omega arith)) (omega arith)
length-in (suc k) n p =
    ⊎_elim (λ (h : n < 10). rw (digits-one n h) (omega arith))
    (λ (h : 10 ≤ n). rw (digits_more n h, length-append) (omega arith))
    (lt-or-ge n 10)

pub digits-all : (n : ℕ) → all_digits (digits_of n) ≡ true
digits-all n = all_in n n (omega arith)

pub digits_value : (n : ℕ) → value_of (digits_of n) ≡ n
digits_value n = value_in n n (omega arith)

pub digits-some : (n : ℕ) → 1 ≤ length (digits_of n)
digits-some n = length-in n n (omega arith)
