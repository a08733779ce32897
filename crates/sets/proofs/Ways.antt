-- What the way of a number meets, step by step. Only an empty place is ever filled, so a way that meets none stays as it is. Assumes nothing.
use Prim.Native.Nat.{ℕ, zero, suc, ◌+◌, ◌-◌, ◌%◌, ◌≤◌, ◌<◌}
use mathlib.Core.List.{List}
use mathlib.Core.Logic.{◌⊎◌, inl, inr}
use mathlib.Core.Path.{◌≡◌, refl, sym, ◌∙◌}
use native.Mathlib.Nat.{mod-lt}
use native.Mathlib.Numerals.{add-one}
use native.Mathlib.Omega.{arith}
use borrow.Author.Tests.{eq-eqb, ne_eqb}
use lib.ListN.{length, get_or, set, length-set}
use lib.Seq.{get_or-set_same, get_or-set_other}
use Rattle.text.proofs.Cases.{eq-or-ne}
use Rattle.sets.specs.Sets.{way_place, cell, way_steps, way_from, Held}
use Rattle.sets.specs.declared.Way.TheVariants.{Held as WayHeld, Free, Blocked}

-- ---- the answers of a way are three
pub free-held : {at : ℕ} → Free at ≡ WayHeld → ⊥
free-held e = let z : ◌≡◌ {A = ℕ} 0 1 = cc in omega arith

pub blocked-held : Blocked ≡ WayHeld → ⊥
blocked-held e = let z : ◌≡◌ {A = ℕ} 0 1 = cc in omega arith

pub blocked-free : {at : ℕ} → Blocked ≡ Free at → ⊥
blocked-free e = let z : ◌≡◌ {A = ℕ} 0 1 = cc in omega arith

free-same : {a b : ℕ} → Free a ≡ Free b → a ≡ b
free-same e = cc

-- ---- a place on the way is one of the slice
pub way-inside : (long x j : ℕ) → (long ≡ 0 → ⊥) → way_place long x j < long
unfolding way_place
way-inside long x j n = mod-lt (x % long + j) (omega arith)

-- ---- no step is left, or one more is made
pub way-none : (places : List ℕ) (x j : ℕ) → way_from places x j 0 ≡ Blocked
unfolding way_from
way-none places x j = refl

module _ (places : List ℕ) (x j m : ℕ) where
  pub way-held : cell places x j ≡ x → way_from places x j (suc m) ≡ WayHeld
  unfolding way_from
  way-held e = rw (eq-eqb (cell places x j) x e)

  module _ (o : cell places x j ≡ x → ⊥) where
    pub way-free : cell places x j ≡ 0 → way_from places x j (suc m) ≡ Free (way_place (length places) x j)
    unfolding way_from
    way-free e = rw (ne_eqb (cell places x j) x o, eq-eqb (cell places x j) 0 e)

    pub way_on : (cell places x j ≡ 0 → ⊥) → way_from places x j (suc m) ≡ way_from places x (suc j) m
    unfolding way_from
    way_on n = rw (ne_eqb (cell places x j) x o, ne_eqb (cell places x j) 0 n)

-- ---- an empty place is filled: a cell that was not empty is as it was, and so is a way that met no empty place
module _ (places : List ℕ) (p y : ℕ) (empty : get_or places p 0 ≡ 0) (x : ℕ) where
  cell_stays : (j : ℕ) → (cell places x j ≡ 0 → ⊥) → cell (set places p y) x j ≡ cell places x j
  cell_stays j n = rw (length-set places p y) (get_or-set_other places p (way_place (length places) x j) y 0 (λ e. n (rw e empty)))

  on-stays : (j m : ℕ) → (cell places x j ≡ x → ⊥) → (cell places x j ≡ 0 → ⊥) → way_from (set places p y) x j (suc m) ≡ way_from (set places p y) x (suc j) m
  on-stays j m o n = let s = cell_stays j n in way_on (set places p y) x j m (λ q. o (sym s ∙ q)) (λ q. n (sym s ∙ q))

  pub way-stays : (x ≡ 0 → ⊥) → (j m : ℕ) → ((at : ℕ) → way_from places x j m ≡ Free at → ⊥) → way_from (set places p y) x j m ≡ way_from places x j m
  way-stays some j zero f = way-none (set places p y) x j ∙ sym (way-none places x j)
  way-stays some j (suc m) f = go (eq-or-ne (cell places x j) x) (eq-or-ne (cell places x j) 0) (way-stays some (suc j) m)
    where
      go : (cell places x j ≡ x) ⊎ (cell places x j ≡ x → ⊥) → (cell places x j ≡ 0) ⊎ (cell places x j ≡ 0 → ⊥)
          → (((at : ℕ) → way_from places x (suc j) m ≡ Free at → ⊥) → way_from (set places p y) x (suc j) m ≡ way_from places x (suc j) m)
          → way_from (set places p y) x j (suc m) ≡ way_from places x j (suc m)
      go (inl e) z ih = way-held (set places p y) x j m (cell_stays j (λ q. some (sym e ∙ q)) ∙ e) ∙ sym (way-held places x j m e)
      go (inr o) (inl z) ih = absurd (f _ (way-free places x j m o z))
      go (inr o) (inr n) ih = on-stays j m o n ∙ ih (λ at q. f at (way_on places x j m o n ∙ q)) ∙ sym (way_on places x j m o n)

-- ---- the empty place that a way meets first is one of the slice; with the number there, the way meets the number
pub record FreeAt (places : List ℕ) (x j m at : ℕ) : Type 0 where
  pub inside : at < length places
  pub empty : get_or places at 0 ≡ 0
  pub filled : way_from (set places at x) x j m ≡ WayHeld

module _ (places : List ℕ) (x : ℕ) (some : length places ≡ 0 → ⊥) where
  pub free-at : (j m at : ℕ) → way_from places x j m ≡ Free at → FreeAt places x j m at
  free-at j zero at e = absurd (blocked-free (sym (way-none places x j) ∙ e))
  free-at j (suc m) at e = go (eq-or-ne (cell places x j) x) (eq-or-ne (cell places x j) 0) (free-at (suc j) m at)
    where
      go : (cell places x j ≡ x) ⊎ (cell places x j ≡ x → ⊥) → (cell places x j ≡ 0) ⊎ (cell places x j ≡ 0 → ⊥)
          → (way_from places x (suc j) m ≡ Free at → FreeAt places x (suc j) m at) → FreeAt places x j (suc m) at
      go (inl h) z ih = absurd (free-held (sym e ∙ way-held places x j m h))
      go (inr o) (inl z) ih =
          let here = free-same (sym e ∙ way-free places x j m o z) in
          let l = way-inside (length places) x j some in
          record {
            inside = rw here l;
            empty = rw here z;
            filled = rw here (way-held (set places (way_place (length places) x j) x) x j m (rw (length-set places (way_place (length places) x j) x) (get_or-set_same places (way_place (length places) x j) x 0 l)));
          }
      go (inr o) (inr n) ih =
          let f = ih (sym (way_on places x j m o n) ∙ e) in
          record { inside = f.inside; empty = f.empty; filled = on-stays places at x f.empty x j m o n ∙ f.filled }

-- ---- a way meets its number exactly where that stands behind no empty place
module _ (places : List ℕ) (x : ℕ) where
  record HeldFrom (j m : ℕ) : Type 0 where
    at : ℕ
    later : j ≤ at
    few : at < j + m
    there : cell places x at ≡ x
    behind : (i : ℕ) → j ≤ i → i < at → cell places x i ≡ 0 → ⊥

  held-from : (j m : ℕ) → way_from places x j m ≡ WayHeld → HeldFrom j m
  held-from j zero e = absurd (blocked-held (sym (way-none places x j) ∙ e))
  held-from j (suc m) e = go (eq-or-ne (cell places x j) x) (eq-or-ne (cell places x j) 0) (held-from (suc j) m)
    where
      go : (cell places x j ≡ x) ⊎ (cell places x j ≡ x → ⊥) → (cell places x j ≡ 0) ⊎ (cell places x j ≡ 0 → ⊥)
          → (way_from places x (suc j) m ≡ WayHeld → HeldFrom (suc j) m) → HeldFrom j (suc m)
      go (inl h) z ih = record { at = j; later = omega arith; few = omega arith; there = h; behind = λ i l (b : i < j). absurd (omega arith) }
      go (inr o) (inl z) ih = absurd (free-held (sym (way-free places x j m o z) ∙ e))
      go (inr o) (inr n) ih =
          let f = ih (sym (way_on places x j m o n) ∙ e) in
          let later = f.later in
          let few = f.few in
          record { at = f.at; later = omega arith; few = omega arith; there = f.there; behind = λ i l b. by_place f i l b (eq-or-ne i j) }
        where
          by_place : (f : HeldFrom (suc j) m) (i : ℕ) → j ≤ i → i < f.at → (i ≡ j) ⊎ (i ≡ j → ⊥) → cell places x i ≡ 0 → ⊥
          by_place f i l b (inl q) z = n (rw q at z)
          by_place f i l b (inr d) z = f.behind i (omega arith) b z

  from-held : (x ≡ 0 → ⊥) → (j m : ℕ) → HeldFrom j m → way_from places x j m ≡ WayHeld
  from-held some j zero f = let later = f.later in let few = f.few in absurd (omega arith)
  from-held some j (suc m) f = go (eq-or-ne j f.at) (from-held some (suc j) m)
    where
      go : (j ≡ f.at) ⊎ (j ≡ f.at → ⊥) → (HeldFrom (suc j) m → way_from places x (suc j) m ≡ WayHeld) → way_from places x j (suc m) ≡ WayHeld
      go (inl e) ih = way-held places x j m (rw e f.there)
      go (inr d) ih = by-cell (eq-or-ne (cell places x j) x)
        where
          later : suc j ≤ f.at
          later = let l = f.later in omega arith

          by-cell : (cell places x j ≡ x) ⊎ (cell places x j ≡ x → ⊥) → way_from places x j (suc m) ≡ WayHeld
          by-cell (inl h) = way-held places x j m h
          by-cell (inr o) =
              way_on places x j m o (f.behind j (omega arith) later)
              ∙ ih (record { at = f.at; later = later; few = let few = f.few in omega arith; there = f.there; behind = λ i (l : suc j ≤ i) b. f.behind i (omega arith) b })

  pub to_held : way_from places x 0 way_steps ≡ WayHeld → Held places x
  to_held e =
      let f = held-from 0 way_steps e in
      let few = f.few in
      record { j = f.at; few = omega arith; there = f.there; behind = λ i l. f.behind i (omega arith) l }

  pub is_held : (x ≡ 0 → ⊥) → Held places x → way_from places x 0 way_steps ≡ WayHeld
  is_held some h =
      let few = h.few in
      from-held some 0 way_steps (record { at = h.j; later = omega arith; few = omega arith; there = h.there; behind = λ i l b. h.behind i b })

-- ---- the loop that goes a way: what is left of it meets what the whole meets
pub record Looking (places : List ℕ) (x j : ℕ) : Type 0 where
  pub few : j ≤ way_steps
  pub same : way_from places x j (way_steps - j) ≡ way_from places x 0 way_steps

module _ {places : List ℕ} {x j : ℕ} (w : Looking places x j) where
  pub look-end : way_steps ≤ j → Blocked ≡ way_from places x 0 way_steps
  look-end h = let e : way_steps - j ≡ 0 = omega arith in sym (way-none places x j) ∙ (rw e at w.same)

  module _ (h : j < way_steps) where
    left : way_steps - j ≡ suc (way_steps - (j + 1))
    left = omega arith

    pub look-held : cell places x j ≡ x → WayHeld ≡ way_from places x 0 way_steps
    look-held e = sym (way-held places x j (way_steps - (j + 1)) e) ∙ (rw left at w.same)

    module _ (o : cell places x j ≡ x → ⊥) where
      pub look-free : cell places x j ≡ 0 → Free (way_place (length places) x j) ≡ way_from places x 0 way_steps
      look-free e = sym (way-free places x j (way_steps - (j + 1)) o e) ∙ (rw left at w.same)

      pub look-on : (cell places x j ≡ 0 → ⊥) → Looking places x (j + 1)
      look-on n = record { few = omega arith; same = rw (add-one j) (sym (way_on places x j (way_steps - suc j) o n)) ∙ (rw left at w.same) }
