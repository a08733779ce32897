-- What keeping a number answers, before and after: an answer other than New is the answer ever after. Assumes nothing.
use Prim.Native.Nat.{ℕ}
use mathlib.Core.List.{List}
use mathlib.Core.Logic.{◌⊎◌, inl, inr}
use mathlib.Core.Path.{◌≡◌, refl, sym, ◌∙◌}
use native.Mathlib.Omega.{arith}
use borrow.Author.Tests.{eq-eqb, ne_eqb}
use lib.ListN.{length, get_or, set, length-set}
use Rattle.text.proofs.Cases.{eq-or-ne}
use Rattle.sets.specs.Sets.{way_steps, way_from, way_of, kept_by, stored_by, kept_of, places_after, Held, Met}
use Rattle.sets.specs.declared.Way.{Way}
use Rattle.sets.specs.declared.Way.TheVariants.{Held as WayHeld, Free, Blocked}
use Rattle.sets.specs.declared.Kept.{Kept}
use Rattle.sets.specs.declared.Kept.TheVariants.{New, Old, Full}
use Rattle.sets.proofs.Ways.{free-held, blocked-held, blocked-free, way-stays, FreeAt, free-at, to_held, is_held}

-- ---- the answers are three
old-new : Old ≡ New → ⊥
old-new e = let z : ◌≡◌ {A = ℕ} 0 1 = cc in omega arith

full-new : Full ≡ New → ⊥
full-new e = let z : ◌≡◌ {A = ℕ} 0 1 = cc in omega arith

full-old : Full ≡ Old → ⊥
full-old e = let z : ◌≡◌ {A = ℕ} 0 1 = cc in omega arith

-- ---- a number's way: none for 0 or without places, else that of its steps
module _ (places : List ℕ) (x : ℕ) where
  pub way-zero : x ≡ 0 → Blocked ≡ way_of places x
  unfolding way_of
  way-zero e = rw (eq-eqb x 0 e)

  module _ (n : x ≡ 0 → ⊥) where
    pub way-empty : length places ≡ 0 → Blocked ≡ way_of places x
    unfolding way_of
    way-empty e = rw (ne_eqb x 0 n, eq-eqb (length places) 0 e)

    pub way-some : (length places ≡ 0 → ⊥) → way_from places x 0 way_steps ≡ way_of places x
    unfolding way_of
    way-some m = rw (ne_eqb x 0 n, ne_eqb (length places) 0 m)

-- ---- a way that meets an empty place, or its number, is one of steps
record Goes (places : List ℕ) (x : ℕ) (w : Way) : Type 0 where
  number : x ≡ 0 → ⊥
  some : length places ≡ 0 → ⊥
  steps : way_from places x 0 way_steps ≡ w

goes : (places : List ℕ) (x : ℕ) (w : Way) → (Blocked ≡ w → ⊥) → way_of places x ≡ w → Goes places x w
goes places x w b e = go (eq-or-ne x 0) (eq-or-ne (length places) 0)
  where
    go : (x ≡ 0) ⊎ (x ≡ 0 → ⊥) → (length places ≡ 0) ⊎ (length places ≡ 0 → ⊥) → Goes places x w
    go (inl z) l = absurd (b (way-zero places x z ∙ e))
    go (inr n) (inl z) = absurd (b (way-empty places x n z ∙ e))
    go (inr n) (inr m) = record { number = n; some = m; steps = way-some places x n m ∙ e }

pub free-there : (places : List ℕ) (x at : ℕ) → way_of places x ≡ Free at → FreeAt places x 0 way_steps at
free-there places x at e = let g = goes places x (Free at) blocked-free e in free-at places x g.some 0 way_steps at g.steps

-- ---- by what a way met
module _ (places : List ℕ) (x : ℕ) (w : Way) (e : way_of places x ≡ w) where
  pub kept-is : kept_by w ≡ kept_of places x
  unfolding kept_of
  kept-is = rw e

  pub after_is : stored_by places x w ≡ places_after places x
  unfolding places_after
  after_is = rw e

-- ---- whatever is kept, an answer other than New stays
module _ (places : List ℕ) (x : ℕ) (met : kept_of places x ≡ New → ⊥) where
  way-after : (p y : ℕ) → get_or places p 0 ≡ 0 → way_of (set places p y) x ≡ way_of places x
  way-after p y empty = go (eq-or-ne x 0) (eq-or-ne (length places) 0)
    where
      long : length (set places p y) ≡ length places
      long = length-set places p y

      go : (x ≡ 0) ⊎ (x ≡ 0 → ⊥) → (length places ≡ 0) ⊎ (length places ≡ 0 → ⊥) → way_of (set places p y) x ≡ way_of places x
      go (inl z) l = sym (way-zero (set places p y) x z) ∙ way-zero places x z
      go (inr n) (inl z) = sym (way-empty (set places p y) x n (long ∙ z)) ∙ way-empty places x n z
      go (inr n) (inr m) =
          sym (way-some (set places p y) x n (λ q. m (sym long ∙ q)))
          ∙ way-stays places p y empty x n 0 way_steps (λ at q. met (sym (kept-is places x (Free at) (sym (way-some places x n m) ∙ q))))
          ∙ way-some places x n m

  pub answer-stays : (y : ℕ) → kept_of (places_after places y) x ≡ kept_of places x
  unfolding kept_of
  answer-stays y = go (way_of places y) refl
    where
      go : (w : Way) → way_of places y ≡ w → kept_by (way_of (places_after places y) x) ≡ kept_by (way_of places x)
      go WayHeld e = rw (← after_is places y WayHeld e)
      go (Free at) e = rw (← after_is places y (Free at) e, way-after at y (free-there places y at e).empty)
      go Blocked e = rw (← after_is places y Blocked e)

-- ---- a number that was new is not new again
pub new-then-old : (places : List ℕ) (x : ℕ) → kept_of places x ≡ New → kept_of (places_after places x) x ≡ Old
new-then-old places x e = go (way_of places x) refl
  where
    go : (w : Way) → way_of places x ≡ w → kept_of (places_after places x) x ≡ Old
    go WayHeld q = absurd (old-new (kept-is places x WayHeld q ∙ e))
    go (Free at) q =
        let g = goes places x (Free at) blocked-free q in
        let f = free-there places x at q in
        rw (← after_is places x (Free at) q)
        (sym (kept-is (set places at x) x WayHeld (sym (way-some (set places at x) x g.number (λ z. g.some (sym (length-set places at x) ∙ z))) ∙ f.filled)))
    go Blocked q = absurd (full-new (kept-is places x Blocked q ∙ e))

-- ---- so what was kept, or found no place, is never new again
pub met-stays : {places : List ℕ} {x : ℕ} → Met places x → (y : ℕ) → Met (places_after places y) x
met-stays {places} {x} met y = record { known = λ e. met.known (sym (answer-stays places x met.known y) ∙ e) }

pub met-now : (places : List ℕ) (x : ℕ) → Met (places_after places x) x
met-now places x = go (kept_of places x) refl
  where
    go : (k : Kept) → kept_of places x ≡ k → Met (places_after places x) x
    go New q = record { known = λ e. old-new (sym (new-then-old places x q) ∙ e) }
    go Old q = met-stays (record { known = λ e. old-new (sym q ∙ e) }) x
    go Full q = met-stays (record { known = λ e. full-new (sym q ∙ e) }) x

-- ---- Old is the answer exactly for a number that the set holds
pub old-held : (places : List ℕ) (x : ℕ) → kept_of places x ≡ Old → Held places x
old-held places x e = go (way_of places x) refl
  where
    go : (w : Way) → way_of places x ≡ w → Held places x
    go WayHeld q = let g = goes places x WayHeld blocked-held q in to_held places x g.steps
    go (Free at) q = absurd (old-new (sym e ∙ sym (kept-is places x (Free at) q)))
    go Blocked q = absurd (full-old (kept-is places x Blocked q ∙ e))

pub held-old : (places : List ℕ) (x : ℕ) → (x ≡ 0 → ⊥) → (length places ≡ 0 → ⊥) → Held places x → kept_of places x ≡ Old
held-old places x n m h = sym (kept-is places x WayHeld (sym (way-some places x n m) ∙ is_held places x n h))

-- so a number that is new is not held before, and is held after; and what is held stays held, whatever is kept
pub new-unheld : (places : List ℕ) (x : ℕ) → kept_of places x ≡ New → Held places x → ⊥
new-unheld places x e h = go (way_of places x) refl
  where
    go : (w : Way) → way_of places x ≡ w → ⊥
    go WayHeld q = old-new (kept-is places x WayHeld q ∙ e)
    go (Free at) q = let g = goes places x (Free at) blocked-free q in free-held (sym g.steps ∙ is_held places x g.number h)
    go Blocked q = full-new (kept-is places x Blocked q ∙ e)

pub new-held : (places : List ℕ) (x : ℕ) → kept_of places x ≡ New → Held (places_after places x) x
new-held places x e = old-held (places_after places x) x (new-then-old places x e)

pub held_stays : (places : List ℕ) (x y : ℕ) → (x ≡ 0 → ⊥) → (length places ≡ 0 → ⊥) → Held places x → Held (places_after places y) x
held_stays places x y n m h =
    let o = held-old places x n m h in
    old-held (places_after places y) x (answer-stays places x (λ e. old-new (sym o ∙ e)) y ∙ o)
