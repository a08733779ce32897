-- What is noted of each class, on the way through things with a class and an ID: where it is noted that IDs ascend, none is met again. Assumes nothing.
use Prim.Native.Nat.{ℕ, zero, suc, ◌+◌, ◌≤◌, ◌<◌}
use mathlib.Core.Bool.{Bool, true, false, cond, true≢false}
use mathlib.Core.List.{List, [], ◌∷◌}
use mathlib.Core.Logic.{◌⊎◌, inl, inr}
use mathlib.Core.Path.{◌≡◌, refl, sym, ap, ◌∙◌}
use native.Mathlib.Numerals.{add-one}
use native.Mathlib.Omega.{arith}
use borrow.Author.Tests.{lt-ltb, le-ltb, ltb-true, ltb-false, lt-leb, le-leb, leb-true}
use lib.Dec.{leb}
use lib.IntN.{ℤ, pos, negsuc}
use lib.ListN.{length, get_or, set, drop, length-set, drop_of_length-le}
use lib.Seq.{get_or-set_same, get_or-set_other, set_out, drop-cons}
use lib.Signed.{lt_z}
use Rattle.signed.specs.Signed.{same_z, largest}
use Rattle.signed.proofs.Sign.{same_z-refl}
use Rattle.text.proofs.Cases.{lt-or-ge, eq-or-ne, and_both, cond_no}
use Rattle.again.specs.Noting.{place_of, note_after, noted, is_open, none_largest, all_ascend}
use Rattle.again.specs.Inside.{Ascending, Noted}

-- ---- what is not above m is not above a number that is
not-above : (m a b : ℤ) → lt_z m a ≡ true → lt_z m b ≡ false → lt_z a b ≡ false
not-above (pos m) (pos a) (pos b) l h = le-ltb a b (omega (arith, ltb-true m a l, ltb-false m b h))
not-above (pos m) (pos a) (negsuc b) l h = refl
not-above (pos m) (negsuc a) b l h = absurd (true≢false (sym l))
not-above (negsuc m) a (pos b) l h = absurd (true≢false h)
not-above (negsuc m) (pos a) (negsuc b) l h = refl
not-above (negsuc m) (negsuc a) (negsuc b) l h = le-ltb b a (omega (arith, ltb-true a m l, ltb-false b m h))

not-above-self : (a : ℤ) → lt_z a a ≡ false
not-above-self (pos a) = le-ltb a a (omega arith)
not-above-self (negsuc a) = le-ltb a a (omega arith)

-- ---- what is noted behind an ID, by the tests of the code
module _ (greatest id : ℤ) where
  pub after-ended : same_z greatest (pos largest) ≡ true → greatest ≡ note_after greatest id
  unfolding note_after
  after-ended e = rw e

  module _ (o : same_z greatest (pos largest) ≡ false) where
    pub after-above : lt_z greatest id ≡ true → id ≡ note_after greatest id
    unfolding note_after
    after-above e = rw (o, e)

    pub after-falls : lt_z greatest id ≡ false → pos largest ≡ note_after greatest id
    unfolding note_after
    after-falls e = rw (o, e)

  -- where IDs still ascend, the ID was above the greatest, and is noted
  record Rises : Type 0 where
    going : same_z greatest (pos largest) ≡ false
    above : lt_z greatest id ≡ true
    here : note_after greatest id ≡ id

  rises : same_z (note_after greatest id) (pos largest) ≡ false → Rises
  rises e = go (same_z greatest (pos largest)) refl (lt_z greatest id) refl
    where
      go : (b : Bool) → same_z greatest (pos largest) ≡ b → (c : Bool) → lt_z greatest id ≡ c → Rises
      go true p c q = absurd (true≢false (sym p ∙ rw (← after-ended p) at e))
      go false p true q = record { going = p; above = q; here = sym (after-above p q) }
      go false p false q = absurd (true≢false (sym (same_z-refl (pos largest)) ∙ rw (← after-falls p q) at e))

-- ---- a class, by whether its place is one of those lent
module _ (most : List ℤ) (class : ℤ) where
  open-there : place_of class < length most → same_z (get_or most (place_of class) (pos 0)) (pos largest) ≡ is_open most class
  unfolding is_open
  open-there h = rw (lt-ltb (place_of class) (length most) h)

  open-beyond : length most ≤ place_of class → true ≡ is_open most class
  unfolding is_open
  open-beyond h = rw (le-ltb (place_of class) (length most) h)

  -- a class that is not open
  closed : is_open most class ≡ false → (place_of class < length most) × (same_z (get_or most (place_of class) (pos 0)) (pos largest) ≡ false)
  closed e = go (lt-or-ge (place_of class) (length most))
    where
      go : (place_of class < length most) ⊎ (length most ≤ place_of class) → (place_of class < length most) × (same_z (get_or most (place_of class) (pos 0)) (pos largest) ≡ false)
      go (inl h) = (h, open-there h ∙ e)
      go (inr h) = absurd (true≢false (open-beyond h ∙ e))

-- ---- what the code reads and stores at the place of a class
module _ (most : List ℤ) (class id : ℤ) (at : ℕ) (p : at ≡ place_of class) where
  pub note-beyond : length most ≤ at → most ≡ noted most class id
  unfolding noted
  note-beyond h = rw (← p) (sym (set_out most at (note_after (get_or most at (pos 0)) id) h))

  pub note-there : (next : ℤ) → next ≡ note_after (get_or most at (pos 0)) id → set most at next ≡ noted most class id
  unfolding noted
  note-there next q = rw (← p, q)

-- ---- all places: none has the largest number, so no class is open
none-at : (most : List ℤ) → none_largest most ≡ true → (i : ℕ) → i < length most → same_z (get_or most i (pos 0)) (pos largest) ≡ false
unfolding none_largest
none-at [] e i l = absurd (omega arith)
none-at (z ∷ zs) e zero l = cond_no (same_z z (pos largest)) _ (λ q. true≢false (sym q)) e
none-at (z ∷ zs) e (suc i) l = none-at zs (cond-rest (same_z z (pos largest)) e) i (omega arith)
  where
    cond-rest : (b : Bool) → cond b false (none_largest zs) ≡ true → none_largest zs ≡ true
    cond-rest true q = absurd (true≢false (sym q))
    cond-rest false q = q

place-low : (class : ℤ) → place_of class < 13
unfolding place_of
place-low class = omega arith

pub ascend-closed : (most : List ℤ) → all_ascend most ≡ true → (class : ℤ) → is_open most class ≡ false
unfolding all_ascend
ascend-closed most e class =
    let b = and_both (leb 13 (length most)) (none_largest most) e in
    let h : place_of class < length most = omega (arith, leb-true 13 (length most) b.0, place-low class) in
    sym (open-there most class h) ∙ none-at most b.1 (place_of class) h

-- the loop over the places, by the tests of the code
pub ascend-short : (most : List ℤ) → length most < 13 → false ≡ all_ascend most
unfolding all_ascend
ascend-short most h = rw (lt-leb 13 (length most) h)

module _ (most : List ℤ) (enough : 13 ≤ length most) where
  pub ascend-start : none_largest (drop 0 most) ≡ all_ascend most
  unfolding all_ascend
  ascend-start = rw (le-leb 13 (length most) enough)

  module _ (i : ℕ) (w : none_largest (drop i most) ≡ all_ascend most) where
    pub ascend-end : length most ≤ i → true ≡ all_ascend most
    unfolding none_largest
    ascend-end h = rw (drop_of_length-le most h) at w

    module _ (h : i < length most) where
      pub ascend-not : same_z (get_or most i (pos 0)) (pos largest) ≡ true → false ≡ all_ascend most
      unfolding none_largest
      ascend-not e = rw (drop-cons most i (pos 0) h, e) at w

      pub ascend-turn : same_z (get_or most i (pos 0)) (pos largest) ≡ false → none_largest (drop (i + 1) most) ≡ all_ascend most
      unfolding none_largest
      ascend-turn e = rw (add-one i) (rw (drop-cons most i (pos 0) h, e) at w)

-- ---- nothing is asked of what is noted at the start
module _ (class id : ℕ → ℤ) where
  pub noted-start : (most : List ℤ) → Noted class id most 0
  noted-start most = record { each = λ j (l : j < 0) o. absurd (omega arith) }

  pub noted-fewer : (most : List ℤ) (k m : ℕ) → m ≤ k → Noted class id most k → Noted class id most m
  noted-fewer most k m h n = record { each = λ j (l : j < m) o. n.each j (omega arith) o }

  module _ (most : List ℤ) (k : ℕ) (n : Noted class id most k) where
    abbrev at : ℕ
    at = place_of (class k)

    abbrev greatest : ℤ
    greatest = get_or most at (pos 0)

    abbrev after : List ℤ
    after = set most at (note_after greatest (id k))

    -- ---- another place is as it was
    elsewhere : (j : ℕ) → j < k + 1 → (place_of (class j) ≡ at → ⊥) → is_open after (class j) ≡ false → Ascending class id after j
    elsewhere j l d o =
        let same = get_or-set_other most at (place_of (class j)) (note_after greatest (id k)) (pos 0) d in
        let c = closed after (class j) o in
        let inside : place_of (class j) < length most = rw (length-set most at (note_after greatest (id k))) at c.0 in
        let a = n.each j (before (lt-or-ge j k)) (sym (open-there most (class j) inside) ∙ (rw same at c.1)) in
        record { most-noted = rw same a.most-noted; once = a.once }
      where
        before : (j < k) ⊎ (k ≤ j) → j < k
        before (inl h) = h
        before (inr h) = let s : j ≡ k = omega arith in absurd (d (rw s))

    -- ---- at the place of the next thing's class, where IDs still ascend
    module _ (inside : at < length most) (r : Rises greatest (id k)) where
      -- a thing before it in a class with that place
      earlier : (j : ℕ) → j < k → place_of (class j) ≡ at → Ascending class id most j
      earlier j l e = n.each j l (sym (open-there most (class j) (rw e inside)) ∙ rw e r.going)

      below : (j : ℕ) → j < k → place_of (class j) ≡ at → lt_z greatest (id j) ≡ false
      below j l e = rw e at (earlier j l e).most-noted

      noted_here : (j : ℕ) → place_of (class j) ≡ at → get_or after (place_of (class j)) (pos 0) ≡ id k
      noted_here j e = rw (e, get_or-set_same most at (note_after greatest (id k)) (pos 0) inside) r.here

      here : (j : ℕ) → j < k + 1 → place_of (class j) ≡ at → (j < k) ⊎ (k ≤ j) → Ascending class id after j
      here j l e (inl b) =
          record { most-noted = rw (noted_here j e) (not-above greatest (id k) (id j) r.above (below j b e)); once = (earlier j b e).once }
      here j l e (inr h) =
          let s : j ≡ k = omega arith in
          rw s
          (record {
            most-noted = rw (noted_here k refl) (not-above-self (id k));
            once = λ i b c q. true≢false (sym r.above ∙ (rw q at (below i b (ap place_of c))));
          })

    noted-turn : Noted class id (noted most (class k) (id k)) (k + 1)
    unfolding noted
    noted-turn = record { each = λ j l o. go j l o (eq-or-ne (place_of (class j)) at) }
      where
        go : (j : ℕ) → j < k + 1 → is_open after (class j) ≡ false → (place_of (class j) ≡ at) ⊎ (place_of (class j) ≡ at → ⊥) → Ascending class id after j
        go j l o (inr d) = elsewhere j l d o
        go j l o (inl e) =
            let c = closed after (class j) o in
            let inside : at < length most = rw (e, length-set most at (note_after greatest (id k))) at c.0 in
            here inside (rises greatest (id k) (rw (e, get_or-set_same most at (note_after greatest (id k)) (pos 0) inside) at c.1)) j l e (lt-or-ge j k)

    pub noted-next : (held ref : ℤ) {next : List ℤ} → next ≡ noted most held ref → held ≡ class k → ref ≡ id k → Noted class id next (k + 1)
    noted-next held ref e p q = rw (e, p, q) noted-turn
