-- Bits of bytes: how the code finds one, and that one that is put in leaves the others as they are. Assumes nothing.
use Prim.Native.Nat.{ℕ, zero, suc, ◌+◌, ◌*◌, ◌/◌, ◌%◌, ◌^◌, ◌≤◌, ◌<◌}
use mathlib.Core.Bool.{true, false, not}
use mathlib.Core.List.{List}
use mathlib.Core.Logic.{◌⊎◌, inl, inr, ⊎_elim}
use mathlib.Core.Path.{◌≡◌, refl, sym, ap, ◌∙◌}
use native.Mathlib.Nat.{pow-suc, mul_comm, one-le-pow, div-div-eq-div-mul}
use native.Mathlib.Omega.{arith}
use borrow.Author.Tests.{eq-eqb, ne_eqb}
use lib.Dec.{eqb, lit<}
use lib.Bits.{bit_and}
use Rattle.std.specs.Int.Bits.{bit_or, or_add_and}
use Rattle.std.proofs.lemmas.List.{set-get_or}
use Rattle.std.proofs.lemmas.Nat.{or_disjoint}
use Rattle.std.proofs.lemmas.Nat.Bits.{and_pow}
use lib.ListN.{length, get_or, set, get_or-eq_default}
use lib.Seq.{set_out, get_or-set_same, get_or-set_other}
use Rattle.text.proofs.Cases.{eq-or-ne, lt-or-ge}
use Rattle.marks.specs.Marks.{bit_of, byte_of, is_marked, marked}

-- ---- by a division
pub bit_is : (i b : ℕ) → b / 2 ^ i % 2 ≡ bit_of b i
unfolding bit_of
bit_is zero b = let e : b / 1 ≡ b = omega arith in rw e
bit_is (suc i) b =
    let e : 2 ^ suc i ≡ 2 * 2 ^ i = pow-suc 2 i ∙ mul_comm (2 ^ i) 2 in
    rw (e, ← div-div-eq-div-mul b 2 (2 ^ i)) (bit_is i (b / 2))

-- ---- a bit that is put in
bit-apart : (i k b : ℕ) → (k ≡ i → ⊥) → bit_of b i ≡ 0 → bit_of (b + 2 ^ i) k ≡ bit_of b k
unfolding bit_of
bit-apart zero zero b n e = absurd (n refl)
bit-apart zero (suc k) b n e = let q : (b + 1) / 2 ≡ b / 2 = omega arith in rw q
bit-apart (suc i) zero b n e = let t = pow-suc 2 i in let q : (b + 2 ^ suc i) % 2 ≡ b % 2 = omega arith in q
bit-apart (suc i) (suc k) b n e =
    let t = pow-suc 2 i in
    let q : (b + 2 ^ suc i) / 2 ≡ b / 2 + 2 ^ i = omega arith in
    rw q (bit-apart i k (b / 2) (λ p. n (ap suc p)) e)

pub bit-none : (i b : ℕ) → (bit_of b i ≡ 1 → ⊥) → bit_of b i ≡ 0
unfolding bit_of
bit-none zero b n = omega arith
bit-none (suc i) b n = bit-none i (b / 2) n

-- ---- what the code's tests say
module _ (marks : List ℕ) (j : ℕ) where
  pub marked-yes : bit_of (byte_of marks j) (j % 8) ≡ 1 → marks ≡ marked marks j
  unfolding marked is_marked
  marked-yes e = rw (eq-eqb _ 1 e)

  pub marked-now : (bit_of (byte_of marks j) (j % 8) ≡ 1 → ⊥) → set marks (j / 8) (byte_of marks j + 2 ^ (j % 8)) ≡ marked marks j
  unfolding marked is_marked
  marked-now n = rw (ne_eqb _ 1 n)

-- ---- a number is in the set only if it was, or was put in
module _ (marks : List ℕ) (j i : ℕ) (n : i ≡ j → ⊥) where
  byte-same : bit_of (byte_of marks j) (j % 8) ≡ 0 → bit_of (byte_of (set marks (j / 8) (byte_of marks j + 2 ^ (j % 8))) i) (i % 8) ≡ bit_of (byte_of marks i) (i % 8)
  byte-same e =
      ⊎_elim (λ (p : i / 8 ≡ j / 8).
      rw p
      (⊎_elim (λ (h : j / 8 < length marks).
      rw (get_or-set_same marks (j / 8) (byte_of marks j + 2 ^ (j % 8)) 0 h) (bit-apart (j % 8) (i % 8) (byte_of marks j) (λ (q : i % 8 ≡ j % 8). n (omega arith)) e))
      (λ (h : length marks ≤ j / 8). rw (set_out marks (j / 8) (byte_of marks j + 2 ^ (j % 8)) h))
      (lt-or-ge (j / 8) (length marks))))
      (λ (p : i / 8 ≡ j / 8 → ⊥). rw (get_or-set_other marks (j / 8) (i / 8) (byte_of marks j + 2 ^ (j % 8)) 0 p))
      (eq-or-ne (i / 8) (j / 8))

  marked_other : is_marked (marked marks j) i ≡ is_marked marks i
  unfolding is_marked
  marked_other =
      ⊎_elim (λ (e : bit_of (byte_of marks j) (j % 8) ≡ 1). rw (← marked-yes marks j e))
      (λ (m : bit_of (byte_of marks j) (j % 8) ≡ 1 → ⊥). rw (← marked-now marks j m, byte-same (bit-none (j % 8) (byte_of marks j) m)))
      (eq-or-ne (bit_of (byte_of marks j) (j % 8)) 1)

pub marked-only : (marks : List ℕ) (j i : ℕ) → is_marked (marked marks j) i ≡ true → (i ≡ j) ⊎ (is_marked marks i ≡ true)
marked-only marks j i e =
    ⊎_elim (λ (p : i ≡ j). inl p) (λ (p : i ≡ j → ⊥). inr (sym (marked_other marks j i p) ∙ e)) (eq-or-ne i j)

-- an empty set
zero_bit : (i : ℕ) → bit_of 0 i ≡ 0
unfolding bit_of
zero_bit zero = refl
zero_bit (suc i) = zero_bit i

pub none-marked : (marks : List ℕ) → ((k : ℕ) → get_or marks k 0 ≡ 0) → (j : ℕ) → is_marked marks j ≡ false
unfolding is_marked
none-marked marks z j = rw (z (j / 8), zero_bit (j % 8))

-- a place that is not there
pub marked-out : (marks : List ℕ) (j : ℕ) → length marks ≤ j / 8 → (false ≡ is_marked marks j) × (marks ≡ marked marks j)
unfolding is_marked marked
marked-out marks j h =
    let z : byte_of marks j ≡ 0 = get_or-eq_default marks 0 h in
    let e : eqb (bit_of (byte_of marks j) (j % 8)) 1 ≡ false = rw (z, zero_bit (j % 8)) in
    (sym e, rw e (sym (set_out marks (j / 8) (byte_of marks j + 2 ^ (j % 8)) h)))

-- ---- the bit of a worth, as the code finds it and puts it in
two : (b i : ℕ) → (bit_of b i ≡ 0) ⊎ (bit_of b i ≡ 1)
two b i = ⊎_elim (λ e. inr e) (λ n. inl (bit-none i b n)) (eq-or-ne (bit_of b i) 1)

and_is : (b i : ℕ) → bit_and b (2 ^ i) ≡ bit_of b i * 2 ^ i
and_is b i = and_pow b i ∙ ap (λ (x : ℕ). x * 2 ^ i) (bit_is i b)

pub bit-test : (b i worth : ℕ) → worth ≡ 2 ^ i → not (eqb (bit_and b worth) 0) ≡ eqb (bit_of b i) 1
bit-test b i worth w = rw (w, and_is) (go (bit_of b i) (two b i))
  where
    go : (x : ℕ) → (x ≡ 0) ⊎ (x ≡ 1) → not (eqb (x * 2 ^ i) 0) ≡ eqb x 1
    go x (inl e) = rw e (rw (eq-eqb (0 * 2 ^ i) 0 (omega arith)))
    go x (inr e) = let p = one-le-pow i 2 (lit< tt) in rw e (rw (ne_eqb (1 * 2 ^ i) 0 (λ q. omega arith)))

module _ (marks : List ℕ) (j worth : ℕ) (w : worth ≡ 2 ^ (j % 8)) where
  pub worth-put : set marks (j / 8) (bit_or (byte_of marks j) worth) ≡ marked marks j
  worth-put = rw w (go (two (byte_of marks j) (j % 8)))
    where
      b : ℕ
      b = byte_of marks j

      go : (bit_of b (j % 8) ≡ 0) ⊎ (bit_of b (j % 8) ≡ 1) → set marks (j / 8) (bit_or b (2 ^ (j % 8))) ≡ marked marks j
      go (inl e) = rw (or_disjoint b (2 ^ (j % 8)) (and_is b (j % 8) ∙ rw e (omega arith))) (marked-now marks j (λ q. omega arith))
      go (inr e) = let f = rw e at (and_is b (j % 8)) in let s : bit_or b (2 ^ (j % 8)) ≡ b = omega (arith, or_add_and b (2 ^ (j % 8)), f) in rw s (set-get_or marks (j / 8) 0 ∙ marked-yes marks j e)
