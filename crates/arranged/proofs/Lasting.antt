-- Events, chains and blocks of tables that hold the same rows in another order last equally long. Assumes nothing.
use Prim.Native.Nat.{ℕ, zero, suc, ◌≤◌, ◌<◌}
use mathlib.Core.Bool.{Bool, true, false, cond, not, ◌&&◌, true≢false}
use mathlib.Core.List.{List, [], ◌∷◌}
use mathlib.Core.Path.{◌≡◌, refl, sym, ap, subst, ◌∙◌}
use native.Mathlib.Omega.{arith}
use borrow.Author.Tests.{lt-ltb, le-ltb, eq-eqb, ne_eqb}
use lib.Dec.{eqb, ltb}
use lib.IntN.{ℤ, pos, nat_abs}
use lib.ListN.{get_or, drop}
use Rattle.text.proofs.Cases.{and_both}
use Rattle.signed.specs.Signed.{same_z}
use Rattle.signed.proofs.Sign.{same_z-true}
use Rattle.unit.specs.declared.Rasters.{Rasters}
use Rattle.shape.specs.declared.Edition.{Edition}
use Rattle.columns.specs.Columns.{form_number, extension_kind}
use Rattle.columns.specs.declared.Form.TheVariants.{Block, Rf as RfForm, Gradient as GradientForm, Trap as TrapForm, Adc as AdcForm, Delay as DelayForm, Entry as EntryForm, Trigger as TriggerForm}
use Rattle.tables.specs.Tables.{number_at, is_row_of, met_row, met_number, class_number}
use Rattle.tables.specs.declared.Class.TheVariants.{Entry, Extension, Trigger, Set, Increment}
use Rattle.chains.specs.Chains.{next_entry}
use Rattle.references.specs.References.{block_refs, code_ref, extension_ref, ref_at, ref_of}
use Rattle.lengths.specs.Lengths.{micros_at, steps_at, shaped_length, trap_length, adc_length, length_of, length_at}
use Rattle.blocks.specs.Blocks.{met_length, entry_length, chain_length, reference_length, number_length}
use Rattle.arranged.specs.Alike.{is_anew, Alike, Arranged}
use Rattle.arranged.proofs.Lookup.{pos-other, alike-kind, Meets, neither, both, delays, met-meets, met-is, class-kind, met-second, SameSamples, samples-same}

-- ---- By a test: the same either way
pub either_way : {A : Type 0} (t : Bool) {x x' y y' : A} → (t ≡ true → x ≡ x') → (t ≡ false → y ≡ y') → cond t x y ≡ cond t x' y'
either_way true f g = f refl
either_way false f g = g refl

-- a number of a row of a kind that says it as it was
pub kept-number : {a : List ℤ} {k : ℕ} {b : List ℤ} {j : ℕ} → Alike a k b j → (kind c : ℕ) → is_anew (pos kind) c ≡ false → same_z (number_at a k 0) (pos kind) ≡ true → number_at a k c ≡ number_at b j c
kept-number {a} {k} y kind c h e = y.same c (rw (same_z-true (number_at a k 0) (pos kind) e) h)

-- a list that a number does not stand in
abbrev pub lists_not : ℕ → List ℕ → Bool
lists_not v [] = true
lists_not v (y ∷ l) = not (eqb y v) && lists_not v l

pub lists-none : (v : ℕ) (l : List ℕ) → lists_not v l ≡ true → eqb 0 v ≡ false → (c : ℕ) → get_or l c 0 ≡ v → ⊥
lists-none v [] h z c e = true≢false (sym (eq-eqb 0 v e) ∙ z)
lists-none v (y ∷ l) h z zero e = true≢false (sym (and_both (not (eqb y v)) (lists_not v l) h).0 ∙ ap not (eq-eqb y v e))
lists-none v (y ∷ l) h z (suc c) e = lists-none v l (and_both (not (eqb y v)) (lists_not v l) h).1 z c e

and-false : (t : Bool) → t && false ≡ false
and-false true = refl
and-false false = refl

-- ---- What an entry refers to: triggers, labels, or nothing that is known
abbrev pub entry_classes : List ℕ
entry_classes = class_number Trigger ∷ class_number Set ∷ class_number Increment ∷ 0 ∷ []

pub extension-other : (v : ℕ) → lists_not v entry_classes ≡ true → eqb 0 v ≡ false → (rows : List ℤ) (n : ℕ) (type : ℤ) → extension_ref rows n type ≡ pos v → ⊥
unfolding extension_ref code_ref
extension-other v h z rows n type = go (same_z code (pos 1)) (same_z code (pos 2)) (same_z code (pos 3))
  where
    code : ℤ
    code = met_number rows n (pos (class_number Extension)) type 2

    go : (s t u : Bool) → pos (cond s (class_number Trigger) (cond t (class_number Set) (cond u (class_number Increment) 0))) ≡ pos v → ⊥
    go true t u e = lists-none v entry_classes h z 0 (ap nat_abs e)
    go false true u e = lists-none v entry_classes h z 1 (ap nat_abs e)
    go false false true e = lists-none v entry_classes h z 2 (ap nat_abs e)
    go false false false e = lists-none v entry_classes h z 3 (ap nat_abs e)

module _ {a b : List ℤ} {n m : ℕ} (x : Arranged a n b m) where
  pub extension-same : (type : ℤ) → extension_ref a n type ≡ extension_ref b m type
  unfolding extension_ref
  extension-same type =
      rw (met-second x (pos extension_kind) type (pos-other (λ e. omega arith)) (pos-other (λ e. omega arith)) (pos-other (λ e. omega arith)))

  -- the next entry
  pub next-meets : {k j : ℕ} → Alike a k b j → Meets a n b m (next_entry a n k) (next_entry b m j)
  unfolding next_entry
  next-meets y = rw (← y.same 4 (unfold is_anew in refl)) (met-meets (pos (class_number Entry)) _ (pos-other (λ e. omega arith)) x)

  pub entry_next : (k : ℕ) → next_entry a n k < n → number_at a (next_entry a n k) 0 ≡ pos (form_number EntryForm)
  unfolding next_entry
  entry_next k h = class-kind (class_number Entry) (λ e. omega arith) (λ e. omega arith) a (number_at a k 4) _ (met-is a n (pos (class_number Entry)) (number_at a k 4) h)

  module _ {s t : List ℤ} (same : SameSamples a n s b m t) (q q' : Rasters) (gradient : q.gradient.0 ≡ q'.gradient.0) (rf : q.rf.0 ≡ q'.rf.0) where
    -- ---- Events
    module _ {k j : ℕ} (y : Alike a k b j) where
      micros-same : (c : ℕ) → is_anew (number_at a k 0) c ≡ false → micros_at a k c ≡ micros_at b j c
      unfolding micros_at
      micros-same c h = rw (y.same c h)

      micros-kept : (kind c : ℕ) → is_anew (pos kind) c ≡ false → same_z (number_at a k 0) (pos kind) ≡ true → micros_at a k c ≡ micros_at b j c
      unfolding micros_at
      micros-kept kind c h e = rw (kept-number y kind c h e)

      shaped-same : (c delay : ℕ) → is_anew (number_at a k 0) c ≡ false → is_anew (number_at a k 0) delay ≡ false → (r r' : ℕ) → r ≡ r' → shaped_length a n s k c delay r ≡ shaped_length b m t j c delay r'
      unfolding shaped_length steps_at
      shaped-same c delay h l r r' e = rw (micros-same delay l, ← y.same c h, ← y.same 4 (unfold is_anew in refl), samples-same x same (number_at a k 4), samples-same x same (number_at a k c), e)

      pub length-same : length_at q a n s k ≡ length_at q' b m t j
      unfolding length_at length_of trap_length adc_length is_anew same_z
      length-same =
          rw (← alike-kind y)
          (either_way (same_z (number_at a k 0) (pos (form_number RfForm))) (λ e. shaped-same 6 7 refl refl q.rf.0 q'.rf.0 rf)
          (λ e. either_way (same_z (number_at a k 0) (pos (form_number GradientForm))) (λ e. shaped-same 5 6 refl refl q.gradient.0 q'.gradient.0 gradient)
          (λ e. either_way (same_z (number_at a k 0) (pos (form_number TrapForm))) (λ e. rw (micros-same 4 refl, micros-same 5 refl, micros-same 6 refl, micros-same 7 refl))
          (λ e. either_way (same_z (number_at a k 0) (pos (form_number AdcForm))) (λ e. rw (micros-same 4 refl, kept-number y 5 2 refl e, kept-number y 5 3 refl e))
          (λ e. either_way (same_z (number_at a k 0) (pos (form_number DelayForm))) (λ e. micros-kept 6 2 refl e)
          (λ e. either_way (same_z (number_at a k 0) (pos (form_number TriggerForm))) (λ e. rw (micros-same 4 refl, micros-same 5 refl)) (λ e. refl)))))))

    met-length : {k j : ℕ} → Meets a n b m k j → cond (ltb k n) (length_at q a n s k) 0 ≡ cond (ltb j m) (length_at q' b m t j) 0
    met-length {k} {j} (neither h l) = rw (le-ltb k n h, le-ltb j m l)
    met-length {k} {j} (both h l y) = rw (lt-ltb k n h, lt-ltb j m l) (length-same y)

    pub met-length-same : (class id : ℤ) → (class ≡ delays → ⊥) → met_length q a n s class id ≡ met_length q' b m t class id
    unfolding met_length
    met-length-same class id other = met-length (met-meets class id other x)

    -- ---- Chains
    entry-same : {k j : ℕ} → Alike a k b j → number_at a k 0 ≡ pos (form_number EntryForm) → entry_length q a n s k ≡ entry_length q' b m t j
    unfolding entry_length is_anew same_z
    entry-same {k} {j} y e =
        rw (← y.same 2 (rw e), ← y.same 3 (rw e), ← extension-same (number_at a k 2))
        (met-length-same (extension_ref a n (number_at a k 2)) (number_at a k 3) (extension-other 6 refl refl a n (number_at a k 2)))

    chain_same : (left : ℕ) {k j : ℕ} → Meets a n b m k j → (k < n → number_at a k 0 ≡ pos (form_number EntryForm)) → chain_length q a n s left k ≡ chain_length q' b m t left j
    unfolding chain_length
    chain_same zero y e = refl
    chain_same (suc left) {k} {j} (neither h l) e = rw (le-ltb k n h, le-ltb j m l)
    chain_same (suc left) {k} {j} (both h l y) e = rw (lt-ltb k n h, lt-ltb j m l, entry-same y (e h), chain_same left (next-meets y) (entry_next k))

    pub reference-same : (class id : ℤ) → (class ≡ delays → ⊥) → reference_length q a n s class id ≡ reference_length q' b m t class id
    unfolding reference_length
    reference-same class id other =
        either_way (same_z class (pos (class_number Entry))) (λ e. chain_same 256 (met-meets class id other x) (entry-met e)) (λ e. met-length-same class id other)
      where
        entry-met : same_z class (pos (class_number Entry)) ≡ true → met_row a n class id < n → number_at a (met_row a n class id) 0 ≡ pos (form_number EntryForm)
        entry-met e h =
            class-kind (class_number Entry) (λ e. omega arith) (λ e. omega arith) a id (met_row a n class id)
            (subst (λ (z : ℤ). is_row_of a z id (met_row a n class id) ≡ true) (same_z-true class (pos (class_number Entry)) e) (met-is a n class id h))

    -- ---- What a block's events last, number c from 3 on: whatever the editions
    pub event-same : (e e' : Edition) {k j : ℕ} → Alike a k b j → number_at a k 0 ≡ pos (form_number Block) → (c : ℕ) → 3 ≤ c → c ≤ 8
        → number_length e q a n s k c ≡ number_length e' q' b m t j c
    unfolding number_length ref_at ref_of is_anew same_z
    event-same e e' {k} {j} y i zero l u = absurd (omega arith)
    event-same e e' {k} {j} y i (suc zero) l u = absurd (omega arith)
    event-same e e' {k} {j} y i (suc (suc zero)) l u = absurd (omega arith)
    event-same e e' {k} {j} y i (suc (suc (suc c))) l u =
        rw (← alike-kind y, i, ← y.same (suc (suc (suc c))) (not-anew c u)) (reference-same _ _ (event-class c))
      where
        not-anew : (c : ℕ) → suc (suc (suc c)) ≤ 8 → is_anew (number_at a k 0) (suc (suc (suc c))) ≡ false
        not-anew c u =
            rw (i, ne_eqb (suc (suc (suc c))) 2 (λ (h : suc (suc (suc c)) ≡ 2). omega arith), ne_eqb (suc (suc (suc c))) 9 (λ (h : suc (suc (suc c)) ≡ 9). omega arith))
            (and-false (eqb (suc (suc (suc c))) 3))

        event-class : (c : ℕ) → pos (get_or (drop 3 (block_refs e)) c 0) ≡ delays → ⊥
        event-class c h = lists-none 6 (drop 3 (block_refs e)) refl refl c (ap nat_abs h)
