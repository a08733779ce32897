-- A text laid over an output: one call after another, what was there, what is read back. Assumes nothing.
use Prim.Native.Nat.{ℕ, suc, ◌+◌, ◌≤◌, ◌<◌, min}
use mathlib.Core.Bool.{Bool, true, false}
use mathlib.Core.List.{List, [], ◌∷◌, ◌++◌}
use mathlib.Core.Path.{◌≡◌, refl, sym, ap, ◌∙◌}
use native.Mathlib.Nat.{add-zero, add-suc, suc-add}
use native.Mathlib.Numerals.{add-one}
use native.Mathlib.Omega.{arith}
use borrow.Author.Tests.{leb-true, leb-false}
use lib.Dec.{leb}
use lib.ListN.{length, get_or, take, drop, set, length-set, length-append}
use lib.Seq.{sets, sets-eq, set_out, take-append_seam, take-suc}
use Rattle.output.specs.Over.{over, farthest, Put}

-- ---- over
pub over-one : (l : List ℕ) (at b : ℕ) → over l at (b ∷ []) ≡ set l at b
unfolding over
over-one l at b = refl

pub over-append : (s t l : List ℕ) (at : ℕ) → over l at (s ++ t) ≡ over (over l at s) (at + length s) t
unfolding over
over-append [] t l at = rw add-zero
over-append (b ∷ s) t l at = rw (over-append s t (set l at b) (suc at), add-suc at (length s), ← suc-add at (length s))

pub length_over : (t l : List ℕ) (at : ℕ) → length (over l at t) ≡ length l
unfolding over
length_over [] l at = refl
length_over (b ∷ t) l at = length_over t (set l at b) (suc at) ∙ length-set l at b

-- past the end nothing changes
pub over-past : (t l : List ℕ) (at : ℕ) → length l ≤ at → over l at t ≡ l
unfolding over
over-past [] l at h = refl
over-past (b ∷ t) l at h = rw (set_out l at b h) (over-past t l (suc at) (omega arith))

-- so it does not matter that counting stops there
pub over-capped : (t l : List ℕ) (at : ℕ) → length l ≤ farthest → over l (min at farthest) t ≡ over l at t
over-capped t l at h = go (leb at farthest) refl
  where
    go : (b : Bool) → leb at farthest ≡ b → over l (min at farthest) t ≡ over l at t
    go true e =
        let n : at ≤ farthest = leb-true at farthest e in
        let m : min at farthest ≡ at = omega arith in
        ap (λ (k : ℕ). over l k t) m
    go false e =
        let n : farthest < at = leb-false at farthest e in
        over-past t l (min at farthest) (omega arith) ∙ sym (over-past t l at (omega arith))

over-sets : (t l : List ℕ) (at : ℕ) → over l at t ≡ sets l at t
unfolding over
over-sets [] l at = refl
over-sets (b ∷ t) l at = over-sets t (set l at b) (suc at)

pub over-room : (t l : List ℕ) (at : ℕ) → at + length t ≤ length l → over l at t ≡ take at l ++ t ++ drop (at + length t) l
over-room t l at h = over-sets t l at ∙ sets-eq t l at h

pub over-front : (t l : List ℕ) → length t ≤ length l → take (length t) (over l 0 t) ≡ t
over-front t l h =
    ap (λ (x : List ℕ). take (length t) x) (over-room t l 0 (omega arith)) ∙ take-append_seam t (drop (0 + length t) l)

-- ---- what a writer ensures
pub put-length : {l t l' : List ℕ} {at r : ℕ} → Put l at t r l' → length l' ≡ length l
put-length {l} {t} {at = at} p = ap length p.text ∙ length_over t l at

pub put-none : {l : List ℕ} {at : ℕ} → at ≤ farthest → length l ≤ farthest → Put l at [] at l
unfolding over
put-none h g = record { place = omega arith; text = refl; room = g }

pub put_one : {l l' : List ℕ} {at b r : ℕ} → l' ≡ set l at b → r ≡ min (at + 1) farthest → length l ≤ farthest → Put l at (b ∷ []) r l'
put_one {l} {l'} {at} {b} e p h = record { place = p; text = e ∙ sym (over-one l at b); room = h }

-- one call after another
pub put_then : {l l₁ l₂ s t : List ℕ} {at r₁ r₂ : ℕ} → Put l at s r₁ l₁ → Put l₁ r₁ t r₂ l₂ → Put l at (s ++ t) r₂ l₂
put_then {l} {l₁} {l₂} {s} {t} {at} p q =
    record {
      place = let a = p.place in let b = q.place in rw length-append (omega arith);
      text =
          rw (over-append, ← p.text) (q.text ∙ ap (λ (k : ℕ). over l₁ k t) p.place ∙ over-capped t l₁ (at + length s) q.room);
      room = p.room;
    }

-- a loop that lays one byte a turn
module _ {l l₁ : List ℕ} {at r₁ : ℕ} (bytes : List ℕ) (i : ℕ) (p : Put l at (take i bytes) r₁ l₁) where
  pub put-more : {l₂ : List ℕ} {r₂ : ℕ} → i < length bytes → Put l₁ r₁ (get_or bytes i 0 ∷ []) r₂ l₂ → Put l at (take (i + 1) bytes) r₂ l₂
  put-more h q = rw (add-one i, take-suc bytes i 0) (put_then p q)

-- what was written, read back
pub put_front : {l t l' : List ℕ} {r : ℕ} → Put l 0 t r l' → length t ≤ length l → take r l' ≡ t
put_front {l} {t} {r = r} p h =
    let e : r ≡ length t = omega (arith, p.place, p.room) in
    rw (e, p.text) (over-front t l h)
