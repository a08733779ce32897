-- Tables that hold the same rows in another order play the same. Assumes nothing.
use Prim.Native.Nat.{ℕ, zero, suc, ◌+◌, ◌≤◌, ◌<◌}
use mathlib.Core.Bool.{Bool, true, false, cond, not, ◌&&◌, true≢false}
use mathlib.Core.List.{List}
use mathlib.Core.Path.{◌≡◌, refl, sym, ap, ◌∙◌}
use native.Mathlib.Omega.{arith}
use borrow.Author.Tests.{eq-eqb, lt-ltb, le-ltb}
use lib.Dec.{eqb, ltb}
use lib.IntN.{ℤ, pos, nat_abs}
use Rattle.text.proofs.Cases.{and_both}
use Rattle.signed.specs.Signed.{same_z}
use Rattle.signed.proofs.Sign.{same_z-true}
use Rattle.unit.specs.declared.Rasters.{Rasters}
use Rattle.columns.specs.Columns.{form_number}
use Rattle.columns.specs.declared.Form.TheVariants.{Block as BlockForm, Entry as EntryForm}
use Rattle.tables.specs.Tables.{number_at, class_number, is_row_of, first_row, met_row, samples_of}
use Rattle.tables.specs.declared.Class.TheVariants.{Block as BlockClass, Rf as RfClass, Gradient as GradientClass, Adc as AdcClass, Entry as EntryClass, Shape as ShapeClass}
use Rattle.tables.proofs.Found.{first-is}
use Rattle.references.specs.References.{extension_ref}
use Rattle.demands.specs.Playing.{none, one, played_at, timing_of, rf_at, gradient_at, adc_at, unknown, extension_of, extension_at, chain_from, block_at, blocks_from, played_of}
use Rattle.arranged.specs.Alike.{is_anew, Alike, Arranged, InOrder, no_more, a_block, not-here, not_there}
use Rattle.arranged.proofs.Lookup.{pos-other, alike-kind, Meets, neither, both, delays, met-meets, met-is, class-kind, kind-keeps, class-keeps, SameSamples, samples-same}
use Rattle.arranged.proofs.Lasting.{extension-other, extension-same, next-meets, entry_next}

-- ---- Where a reference meets none, it is the row behind all
pub met-most : (rows : List ℤ) (n : ℕ) (class id : ℤ) → met_row rows n class id ≤ n
unfolding met_row first_row
met-most rows n class id = go (same_z id (pos 0))
  where
    go : (t : Bool) → cond t n (first_row rows n class id) ≤ n
    go true = omega arith
    go false = let m = (first-is (is_row_of rows class id) 0 n).most in omega arith

-- ---- Classes whose rows say all their numbers as they were: those of events
record EventClass (class : ℤ) : Type 0 where
  no-delay : class ≡ delays → ⊥
  no_block : class ≡ pos (class_number BlockClass) → ⊥
  no-shape : class ≡ pos (class_number ShapeClass) → ⊥

-- a number other than those
abbrev is_event : ℕ → Bool
is_event class = not (eqb class 6) && (not (eqb class 1) && not (eqb class 11))

event-class : (class : ℕ) → is_event class ≡ true → EventClass (pos class)
event-class class e =
    let p = and_both (not (eqb class 6)) (not (eqb class 1) && not (eqb class 11)) e in
    let q = and_both (not (eqb class 1)) (not (eqb class 11)) p.1 in
    record { no-delay = other 6 p.0; no_block = other 1 q.0; no-shape = other 11 q.1 }
  where
    other : (v : ℕ) → not (eqb class v) ≡ true → pos class ≡ pos v → ⊥
    other v h z = true≢false (sym h ∙ ap not (eq-eqb class v (ap nat_abs z)))

extension-class : (rows : List ℤ) (n : ℕ) (type : ℤ) → EventClass (extension_ref rows n type)
extension-class rows n type = record { no-delay = extension-other 6 refl refl rows n type; no_block = extension-other 1 refl refl rows n type; no-shape = extension-other 11 refl refl rows n type }

-- ---- Rows all of whose numbers are the same
record SameRow (a : List ℤ) (k : ℕ) (b : List ℤ) (j : ℕ) : Type 0 where
  each : (c : ℕ) → number_at a k c ≡ number_at b j c

module _ {a b : List ℤ} {n m : ℕ} (x : Arranged a n b m) {s t : List ℤ} (same : SameSamples a n s b m t) where
  -- ---- Events
  module _ {k j : ℕ} (y : SameRow a k b j) where
    abbrev all : (c : ℕ) → number_at a k c ≡ number_at b j c
    all = y.each

    samples-at : (c : ℕ) → samples_of a n s (number_at a k c) ≡ samples_of b m t (number_at b j c)
    samples-at c = samples-same x same (number_at a k c) ∙ ap (samples_of b m t) (all c)

    timing-at : (c : ℕ) → timing_of a n s (number_at a k c) ≡ timing_of b m t (number_at b j c)
    unfolding timing_of
    timing-at c = rw (samples-at c, all c)

    rf-same : rf_at a n s k ≡ rf_at b m t j
    unfolding rf_at
    rf-same = rw (samples-at 4, samples-at 5, timing-at 6, all 2, all 3, all 7, all 8, all 9, all 10, all 11)

    gradient-same : gradient_at a n s k ≡ gradient_at b m t j
    unfolding gradient_at
    gradient-same = rw (samples-at 4, timing-at 5, all 0, all 2, all 3, all 4, all 5, all 6, all 7)

    adc-same : adc_at a k ≡ adc_at b j
    unfolding adc_at
    adc-same = rw (all 2, all 3, all 4, all 5, all 6, all 7, all 8)

    extension-row-same : extension_of a k ≡ extension_of b j
    unfolding extension_of
    extension-row-same = rw (all 0, all 2, all 3, all 4, all 5)

  -- what a reference to a class meets, and what it plays
  module _ (class : ℤ) (id : ℤ) (event : EventClass class) where
    met-row : met_row a n class id < n → Alike a (met_row a n class id) b (met_row b m class id) → SameRow a (met_row a n class id) b (met_row b m class id)
    met-row h y = record { each = λ c. y.same c (class-keeps a class id _ event.no_block event.no-shape (met-is a n class id h) c) }

    event-same : {A : Type 0} (f g : ℕ → A) → ((k j : ℕ) → SameRow a k b j → f k ≡ g j) → played_at f n (met_row a n class id) ≡ played_at g m (met_row b m class id)
    unfolding played_at
    event-same f g plays = go (met-meets class id event.no-delay x) met-row
      where
        go : {k j : ℕ} → Meets a n b m k j → (k < n → Alike a k b j → SameRow a k b j) → cond (ltb k n) (one (f k)) none ≡ cond (ltb j m) (one (g j)) none
        go {k} {j} (neither h l) row = rw (le-ltb k n h, le-ltb j m l)
        go {k} {j} (both h l y) row = rw (lt-ltb k n h, lt-ltb j m l, plays k j (row h y))

  -- ---- Extension rows, in chain order; behind all rows there is none
  module _ (past : number_at a n 0 ≡ pos 0) (past' : number_at b m 0 ≡ pos 0) where
    behind-none : (rows : List ℤ) (n : ℕ) → number_at rows n 0 ≡ pos 0 → extension_of rows n ≡ unknown
    unfolding extension_of same_z
    behind-none rows n e = rw e

    extension-met : (class id : ℤ) → EventClass class → extension_of a (met_row a n class id) ≡ extension_of b (met_row b m class id)
    extension-met class id event = go (met-meets class id event.no-delay x) (met-row class id event) (met-most a n class id) (met-most b m class id)
      where
        go : {k j : ℕ} → Meets a n b m k j → (k < n → Alike a k b j → SameRow a k b j) → k ≤ n → j ≤ m → extension_of a k ≡ extension_of b j
        go {k} {j} (neither h l) row u w =
            let p : k ≡ n = omega arith in
            let r : j ≡ m = omega arith in
            rw (p, r) (behind-none a n past ∙ sym (behind-none b m past'))
        go {k} {j} (both h l y) row u w = extension-row-same (row h y)

    extension-at-same : {k j : ℕ} → SameRow a k b j → extension_at a n k ≡ extension_at b m j
    unfolding extension_at
    extension-at-same {k} {j} y =
        rw (← y.each 2, ← y.each 3, ← extension-same x (number_at a k 2))
        (extension-met (extension_ref a n (number_at a k 2)) (number_at a k 3) (extension-class a n (number_at a k 2)))

    chain-played : (left : ℕ) {k j : ℕ} → Meets a n b m k j → (k < n → number_at a k 0 ≡ pos (form_number EntryForm)) → chain_from a n left k ≡ chain_from b m left j
    unfolding chain_from same_z
    chain-played zero y e = refl
    chain-played (suc left) {k} {j} (neither h l) e = rw (le-ltb k n h, le-ltb j m l)
    chain-played (suc left) {k} {j} (both h l y) e =
        rw (lt-ltb k n h, lt-ltb j m l, extension-at-same (entry_row y (e h)), chain-played left (next-meets x y) (entry_next x k))
      where
        entry_row : Alike a k b j → number_at a k 0 ≡ pos (form_number EntryForm) → SameRow a k b j
        entry_row y e = record { each = λ c. y.same c (kind-keeps (number_at a k 0) (rw e) (rw e) c) }

    -- ---- Blocks
    module _ {k j : ℕ} (y : Alike a k b j) (i : number_at a k 0 ≡ pos (form_number BlockForm)) (ns : number_at a k 9 ≡ number_at b j 9) where
      event-at : {A : Type 0} (f g : ℕ → A) → ((k j : ℕ) → SameRow a k b j → f k ≡ g j) → (class c : ℕ) → EventClass (pos class) → is_anew (number_at a k 0) c ≡ false
          → played_at f n (met_row a n (pos class) (number_at a k c)) ≡ played_at g m (met_row b m (pos class) (number_at b j c))
      event-at f g plays class c event keeps =
          event-same (pos class) (number_at a k c) event f g plays
          ∙ ap (λ (z : ℤ). played_at g m (met_row b m (pos class) z)) (y.same c keeps)

      gradient-at : (c : ℕ) → is_anew (number_at a k 0) c ≡ false
          → played_at (gradient_at a n s) n (met_row a n (pos (class_number GradientClass)) (number_at a k c)) ≡ played_at (gradient_at b m t) m (met_row b m (pos (class_number GradientClass)) (number_at b j c))
      gradient-at c keeps = event-at (gradient_at a n s) (gradient_at b m t) (λ k j z. gradient-same z) (class_number GradientClass) c (event-class 3 refl) keeps

      chain-at : chain_from a n 256 (met_row a n (pos (class_number EntryClass)) (number_at a k 8)) ≡ chain_from b m 256 (met_row b m (pos (class_number EntryClass)) (number_at b j 8))
      unfolding is_anew
      chain-at =
          chain-played 256 (met-meets (pos (class_number EntryClass)) (number_at a k 8) (pos-other (λ z. omega arith)) x)
          (λ h. class-kind (class_number EntryClass) (λ z. omega arith) (λ z. omega arith) a (number_at a k 8) _ (met-is a n (pos (class_number EntryClass)) (number_at a k 8) h))
          ∙ ap (λ (z : ℤ). chain_from b m 256 (met_row b m (pos (class_number EntryClass)) z)) (y.same 8 refl)

      block_same : block_at a n s k ≡ block_at b m t j
      unfolding block_at is_anew same_z
      block_same =
          rw (
            y.same 1 refl,
            ns,
            event-at (rf_at a n s) (rf_at b m t) (λ k j z. rf-same z) (class_number RfClass) 3 (event-class 2 refl) (rw i),
            gradient-at 4 refl,
            gradient-at 5 refl,
            gradient-at 6 refl,
            event-at (adc_at a) (adc_at b) (λ k j z. adc-same z) (class_number AdcClass) 7 (event-class 5 refl) refl,
            chain-at,
          )

    module _ (lasts : (k j : ℕ) → k < n → j < m → number_at a k 0 ≡ pos (form_number BlockForm) → Alike a k b j → number_at a k 9 ≡ number_at b j 9) where
      blocks-same : {k u j w : ℕ} → k + u ≤ n → j + w ≤ m → InOrder a b k u j w → blocks_from a n s k u ≡ blocks_from b m t j w
      unfolding blocks_from
      blocks-same p r no_more = refl
      blocks-same p r (a_block {k} {x = u} {j} {y = w} i y o) =
          let e = same_z-true (number_at a k 0) (pos (form_number BlockForm)) i in
          rw (i, ← alike-kind y, i, block_same y e (lasts k j (omega arith) (omega arith) e y), blocks-same (omega arith) (omega arith) o)
      blocks-same p r (not-here i o) = rw i (blocks-same (omega arith) r o)
      blocks-same p r (not_there i o) = rw i (blocks-same p (omega arith) o)

      pub played-same : InOrder a b 0 n 0 m → (q q' : Rasters) → q.gradient.0 ≡ q'.gradient.0 → q.rf.0 ≡ q'.rf.0 → played_of q a n s ≡ played_of q' b m t
      unfolding played_of
      played-same o q q' g f = rw (blocks-same (omega arith) (omega arith) o, g, f)
