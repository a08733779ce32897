-- A lent list filled with the durations in the order of first use, and a list searched. Assumes nothing.
use Prim.Native.Nat.{ℕ, suc, ◌+◌, ◌-◌, ◌≤◌, ◌<◌, min}
use mathlib.Core.Bool.{Bool, true, false, cond}
use mathlib.Core.List.{List, [], ◌∷◌, ◌++◌}
use mathlib.Core.Logic.{⊎_elim}
use mathlib.Core.Path.{◌≡◌, refl, sym, ap, ◌∙◌}
use native.Mathlib.Numerals.{add-one}
use native.Mathlib.Omega.{arith}
use lib.IntN.{ℤ}
use lib.ListN.{length, take, drop, set, length-append, take-append-drop}
use lib.Seq.{take-length, length-take-le}
use Rattle.text.proofs.Cases.{lt-or-ge}
use Rattle.output.specs.Over.{over}
use Rattle.output.proofs.Over.{over-append, over-past, over-front, length_over}
use Rattle.sayable.specs.Sayable.{nanos_at}
use Rattle.durations.specs.Durations.{uses_in, uses_list, Listed, FirstUsed, is_new, new_use}
use Rattle.durations.proofs.Listing.{uses-length, uses-split, uses-more, new-next}

-- it is laid behind what the list has
module _ (l : List ℕ) (count : ℕ) (rows : List ℤ) (k : ℕ) (b : Bool) (p : b ≡ is_new (take count l) rows k) where
  pub noted-new : b ≡ true → (ns : ℕ) → ns ≡ nanos_at rows k
      → (count + 1 ≡ count + length (new_use (take count l) rows k)) × (set l count ns ≡ over l count (new_use (take count l) rows k))
  unfolding new_use over
  noted-new e ns q = (rw (← p, e), rw (← p, e, q))

  pub noted-none : b ≡ false → (count ≡ count + length (new_use (take count l) rows k)) × (l ≡ over l count (new_use (take count l) rows k))
  unfolding new_use over
  noted-none e = (rw (← p, e) (omega arith), rw (← p, e))

new-few : (list : List ℕ) (rows : List ℤ) (k : ℕ) → length (new_use list rows k) ≤ 1
unfolding new_use
new-few list rows k = go (is_new list rows k)
  where
    go : (b : Bool) → length (cond b (nanos_at rows k ∷ []) []) ≤ 1
    go true = omega arith
    go false = omega arith

-- ---- a list filled row by row
pub record Filling (rows : List ℤ) (n : ℕ) (l₀ l : List ℕ) (count k : ℕ) : Type 0 where
  pub within : k ≤ n
  pub room : count ≤ length l₀
  pub many : count ≡ uses_in rows n 0 k
  pub list : l ≡ over l₀ 0 (uses_list rows n 0 k)

module _ (rows : List ℤ) (n : ℕ) where
  pub fill_start : (l : List ℕ) → Filling rows n l l 0 0
  unfolding uses_in uses_list over
  fill_start l = record { within = omega arith; room = omega arith; many = refl; list = refl }

  module _ (l₀ l : List ℕ) (count k : ℕ) (w : Filling rows n l₀ l count k) where
    pub fill-length : length l ≡ length l₀
    fill-length = ap length w.list ∙ length_over (uses_list rows n 0 k) l₀ 0

    -- those found so far
    found : take count l ≡ uses_list rows n 0 k
    found =
        let e : count ≡ length (uses_list rows n 0 k) = w.many ∙ sym (uses-length rows n 0 k) in
        let r = w.room in
        rw (w.list, e) (over-front (uses_list rows n 0 k) l₀ (omega arith))

    -- laid over as far as k, with what comes next
    laid : (rest : List ℕ) → over l₀ 0 (uses_list rows n 0 k ++ rest) ≡ over l count rest
    laid rest =
        let e : 0 + length (uses_list rows n 0 k) ≡ count = let m = w.many in let u = uses-length rows n 0 k in omega arith in
        over-append (uses_list rows n 0 k) rest l₀ 0 ∙ rw (e, ← w.list)

    pub fill-turn : k < n → count < length l → (r : ℕ) (l' : List ℕ) → r ≡ count + length (new_use (take count l) rows k) → l' ≡ over l count (new_use (take count l) rows k)
        → Filling rows n l₀ l' r (k + 1)
    fill-turn h c r l' p q =
        let next = new-next rows n k h in
        let new = new_use (uses_list rows n 0 k) rows k in
        let m : uses_in rows n 0 (suc k) ≡ uses_in rows n 0 k + length new =
        sym (uses-length rows n 0 (suc k)) ∙ ap length next ∙ length-append (uses_list rows n 0 k) new ∙ rw (uses-length rows n 0 k) in
        let p' : r ≡ count + length new = rw found at p in
        let u = w.many in
        let o = new-few (uses_list rows n 0 k) rows k in
        let z = fill-length in
        record {
          within = omega arith;
          room = omega arith;
          many = rw (add-one k) (omega arith);
          list = rw (add-one k, next) (rw found at q ∙ sym (laid new));
        }

    -- no room is left
    pub fill-full : length l ≤ count → Listed rows n l₀ count l
    fill-full h =
        let whole : k + (n - k) ≡ n = let b = w.within in omega arith in
        let split : uses_list rows n 0 n ≡ uses_list rows n 0 k ++ uses_list rows n k (n - k) = rw whole at (uses-split rows n 0 k (n - k) k (omega arith)) in
        let r = w.room in
        let u = w.many in
        let z = fill-length in
        let more = uses-more rows n k n w.within in
        record { many = omega arith; list = rw split (sym (laid (uses_list rows n k (n - k)) ∙ over-past (uses_list rows n k (n - k)) l count h)) }

    pub fill_end : n ≤ k → Listed rows n l₀ count l
    fill_end h =
        let b = w.within in
        let e : k ≡ n = omega arith in
        let u : count ≡ uses_in rows n 0 n = rw e at w.many in
        let r = w.room in
        record { many = omega arith; list = rw e at w.list }

-- ---- what was listed is the front of the list
front-over : (t l : List ℕ) (c : ℕ) → c ≡ min (length t) (length l) → take c (over l 0 t) ≡ take c t
front-over t l c e = ⊎_elim short all (lt-or-ge (length l) (length t))
  where
    all : length t ≤ length l → take c (over l 0 t) ≡ take c t
    all h = let q : c ≡ length t = omega arith in rw q (over-front t l h ∙ sym (take-length t))

    short : length l < length t → take c (over l 0 t) ≡ take c t
    short h =
        let f : length (take c t) ≡ c = length-take-le c t (omega arith) in
        let o = length_over (take c t) l 0 in
        let kept : over l 0 t ≡ over l 0 (take c t) =
        sym (ap (over l 0) (take-append-drop c t)) ∙ over-append (take c t) (drop c t) l 0 ∙ over-past (drop c t) (over l 0 (take c t)) (0 + length (take c t)) (omega arith) in
        rw kept (rw f at (over-front (take c t) l (omega arith)))

module _ {rows : List ℤ} {n count : ℕ} {l l' : List ℕ} (w : Listed rows n l count l') where
  pub listed-room : count ≤ length l
  listed-room = let m = w.many in omega arith

  pub listed-first : FirstUsed rows n (take count l')
  unfolding FirstUsed
  listed-first =
      let m = w.many in
      let u = uses-length rows n 0 n in
      let o = length_over (uses_list rows n 0 n) l 0 in
      let f : length (take count (over l 0 (uses_list rows n 0 n))) ≡ count = length-take-le count (over l 0 (uses_list rows n 0 n)) (omega arith) in
      rw (w.list, f) (front-over (uses_list rows n 0 n) l count (omega arith))

-- the same as a fact of a `Uses`
pub first-used : (rows : List ℤ) (n : ℕ) (list : List ℕ) → list ≡ take (length list) (uses_list rows n 0 n) → FirstUsed rows n list
unfolding FirstUsed
first-used rows n list e = e

pub none-listed : (rows : List ℤ) (n : ℕ) → FirstUsed rows n []
unfolding FirstUsed
none-listed rows n = refl
