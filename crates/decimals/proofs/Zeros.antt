-- Laws of trailing zeros. Assumes nothing.
use Prim.Native.Nat.{ℕ, zero, suc, ◌+◌, ◌*◌, ◌/◌, ◌%◌, ◌^◌, ◌<◌, ◌≤◌}
use mathlib.Core.Path.{◌≡◌, refl, ap, ◌∙◌, sym}
use mathlib.Core.Logic.{⊎_elim}
use native.Mathlib.Omega.{arith}
use native.Mathlib.Numerals.{add-one}
use native.Mathlib.Nat.{mul_comm, mul-le-mul_right, pow-le-pow_right, pow-suc, mul-one, add-zero, mul-pos, one-le-pow, mul_assoc, le_trans}
use lib.Dec.{lit<}
use borrow.Author.Tests.{eq-eqb, ne_eqb}
use Rattle.decimals.specs.Decimal.{strip_in, strip_from}
use Rattle.text.proofs.Cases.{eq-or-ne, lt-or-ge}

in-done : (k n z : ℕ) → (n % 10 ≡ 0 → ⊥) → strip_in k n z ≡ record { v = n; zeros = z }
unfolding strip_in
in-done zero n z h = refl
in-done (suc k) n z h = simp (ne_eqb (n % 10) 0 h)

in-more : (k n z : ℕ) → n % 10 ≡ 0 → strip_in (suc k) n z ≡ strip_in k (n / 10) (z + 1)
unfolding strip_in
in-more k n z h = simp (eq-eqb (n % 10) 0 h)

same : (k j n z : ℕ) → 1 ≤ n → n ≤ k → n ≤ j → strip_in k n z ≡ strip_in j n z
same zero j n z l p q = absurd (omega arith)
same (suc k) zero n z l p q = absurd (omega arith)
same (suc k) (suc j) n z l p q =
    ⊎_elim (λ (h : n % 10 ≡ 0). in-more k n z h ∙ same k j (n / 10) (z + 1) (omega arith) (omega arith) (omega arith) ∙ sym (in-more j n z h))
    (λ (h : n % 10 ≡ 0 → ⊥). in-done (suc k) n z h ∙ sym (in-done (suc j) n z h))
    (eq-or-ne (n % 10) 0)

-- ---- the two laws by which a loop goes
pub strip-done : (n z : ℕ) → (n % 10 ≡ 0 → ⊥) → strip_from n z ≡ record { v = n; zeros = z }
unfolding strip_from
strip-done n z h = in-done n n z h

pub strip-more : (n z : ℕ) → 1 ≤ n → n % 10 ≡ 0 → strip_from n z ≡ strip_from (n / 10) (z + 1)
unfolding strip_from
strip-more n z l h =
    same n (suc n) n z l (omega arith) (omega arith)
    ∙ in-more n n z h
    ∙ same n (n / 10) (n / 10) (z + 1) (omega arith) (omega arith) (omega arith)

pub strip-nothing : (z : ℕ) → strip_from 0 z ≡ record { v = 0; zeros = z }
unfolding strip_from strip_in
strip-nothing z = refl

-- ---- zeros behind a number are counted
pub strip-ten : (n z : ℕ) → 1 ≤ n → strip_from (n * 10) z ≡ strip_from n (z + 1)
strip-ten n z l =
    let e : n * 10 / 10 ≡ n = omega arith in
    strip-more (n * 10) z (omega arith) (omega arith) ∙ ap (λ (k : ℕ). strip_from k (z + 1)) e

pub strip-pow : (k n z : ℕ) → 1 ≤ n → strip_from (n * 10 ^ k) z ≡ strip_from n (z + k)
strip-pow zero n z l = rw (mul-one, add-zero)
strip-pow (suc k) n z l =
    let m : 1 ≤ n * 10 ^ k = mul-pos l (one-le-pow k 10 (lit< tt)) in
    let e : n * 10 ^ suc k ≡ n * 10 ^ k * 10 = rw (pow-suc 10 k, ← (mul_assoc n (10 ^ k) 10)) in
    let f : z + 1 + k ≡ z + suc k = omega arith in
    ap (λ (x : ℕ). strip_from x z) e ∙ strip-ten (n * 10 ^ k) z m ∙ strip-pow k n (z + 1) l ∙ ap (λ (x : ℕ). strip_from n x) f

le_in : (k n z : ℕ) → n ≤ k → (strip_from n z).v ≤ n
le_in zero n z p =
    let e : n ≡ 0 = omega arith in
    rw (e, strip-nothing) (omega arith)
le_in (suc k) n z p =
    ⊎_elim (λ (e : n ≡ 0). rw (e, strip-nothing) (omega arith))
    (λ (l : n ≡ 0 → ⊥).
    ⊎_elim (λ (h : n % 10 ≡ 0). rw (strip-more n z (omega arith) h) (let r = le_in k (n / 10) (z + 1) (omega arith) in omega arith))
    (λ (h : n % 10 ≡ 0 → ⊥). rw (strip-done n z h) (omega arith))
    (eq-or-ne (n % 10) 0))
    (eq-or-ne n 0)

pub strip-le : (n z : ℕ) → (strip_from n z).v ≤ n
strip-le n z = le_in n n z (omega arith)

zeros-in : (k n z : ℕ) → n ≤ k → (strip_from n z).zeros ≤ n + z
zeros-in zero n z p =
    let e : n ≡ 0 = omega arith in
    rw (e, strip-nothing) (omega arith)
zeros-in (suc k) n z p =
    ⊎_elim (λ (e : n ≡ 0). rw (e, strip-nothing) (omega arith))
    (λ (l : n ≡ 0 → ⊥).
    ⊎_elim (λ (h : n % 10 ≡ 0). rw (strip-more n z (omega arith) h) (let r = zeros-in k (n / 10) (z + 1) (omega arith) in omega arith))
    (λ (h : n % 10 ≡ 0 → ⊥). rw (strip-done n z h) (omega arith))
    (eq-or-ne (n % 10) 0))
    (eq-or-ne n 0)

pub strip-zeros : (n z : ℕ) → (strip_from n z).zeros ≤ n + z
strip-zeros n z = zeros-in n n z (omega arith)

-- ---- what has more than so many digits without its trailing zeros has them whatever digit follows
unfoldable pub Large : ℕ → ℕ → Type 0
Large m n = (z : ℕ) → m ≤ (strip_from n z).v

pub large-next : (m n d : ℕ) → 1 ≤ m → d < 10 → Large m n → Large m (n * 10 + d)
unfolding Large
large-next m n d l p h z =
    let k : m ≤ n = le_trans (h 0) (strip-le n 0) in
    ⊎_elim (λ (e : d ≡ 0).
    let f : n * 10 + d ≡ n * 10 = omega arith in
    rw (f, strip-ten n z (omega arith)) (h (z + 1)))
    (λ (e : d ≡ 0 → ⊥). rw (strip-done (n * 10 + d) z (λ q. e (omega arith))) (omega arith))
    (eq-or-ne d 0)

pub large-here : (m n : ℕ) → m ≤ n → (n % 10 ≡ 0 → ⊥) → Large m n
unfolding Large
large-here m n l h z = rw (strip-done n z h) l

-- ---- Something is left of something
some_in : (k n z : ℕ) → n ≤ k → 1 ≤ n → 1 ≤ (strip_from n z).v
some_in zero n z p l = absurd (omega arith)
some_in (suc k) n z p l =
    ⊎_elim (λ (h : n % 10 ≡ 0). rw (strip-more n z l h) (some_in k (n / 10) (z + 1) (omega arith) (omega arith)))
    (λ (h : n % 10 ≡ 0 → ⊥). rw (strip-done n z h) l)
    (eq-or-ne (n % 10) 0)

pub strip-some : (n z : ℕ) → 1 ≤ n → 1 ≤ (strip_from n z).v
strip-some n z l = some_in n n z (omega arith) l

-- ---- What is left, with its zeros behind it, is the number
worth-in : (k n z : ℕ) → n ≤ k → 1 ≤ n → (strip_from n z).v * 10 ^ (strip_from n z).zeros ≡ n * 10 ^ z
worth-in zero n z p l = absurd (omega arith)
worth-in (suc k) n z p l =
    ⊎_elim (λ (h : n % 10 ≡ 0).
    let e : n / 10 * 10 ≡ n = omega arith in
    let f : n / 10 * 10 ^ (z + 1) ≡ n * 10 ^ z =
    rw (add-one z, pow-suc 10 z, mul_comm (10 ^ z) 10, ← (mul_assoc (n / 10) 10 (10 ^ z)), e) in
    rw (strip-more n z l h) (worth-in k (n / 10) (z + 1) (omega arith) (omega arith) ∙ f))
    (λ (h : n % 10 ≡ 0 → ⊥). rw (strip-done n z h))
    (eq-or-ne (n % 10) 0)

pub strip-worth : (n : ℕ) → 1 ≤ n → (strip_from n 0).v * 10 ^ (strip_from n 0).zeros ≡ n
strip-worth n l = worth-in n n 0 (omega arith) l ∙ mul-one n

-- a number of so many digits has fewer zeros
pub strip-fewer : (n k : ℕ) → 1 ≤ n → n < 10 ^ k → (strip_from n 0).zeros < k
strip-fewer n k l h =
    ⊎_elim (λ (a : (strip_from n 0).zeros < k). a)
    (λ (a : k ≤ (strip_from n 0).zeros).
    let p : 10 ^ k ≤ 10 ^ (strip_from n 0).zeros = pow-le-pow_right {n = 10} (lit< tt) a in
    let q : 1 * 10 ^ (strip_from n 0).zeros ≤ (strip_from n 0).v * 10 ^ (strip_from n 0).zeros = mul-le-mul_right (10 ^ (strip_from n 0).zeros) (strip-some n 0 l) in
    absurd (let e = strip-worth n l in omega arith))
    (lt-or-ge (strip_from n 0).zeros k)
