-- A label's value, printed, reads back as the value that was read. Assumes nothing.
use Rattle.std.proofs.Common.{None, Option, Some}
use Prim.Native.Nat.{ℕ, ◌≤◌}
use mathlib.Core.Bool.{Bool, true, false, cond, ◌&&◌, true≢false}
use mathlib.Core.List.{List, [], ◌∷◌}
use mathlib.Core.Path.{◌≡◌, refl, sym, ap}
use native.Mathlib.Omega.{arith}
use borrow.Author.Tests.{ne_eqb}
use lib.Dec.{leb, eqb}
use lib.IntN.{ℤ, pos, nat_abs}
use Rattle.text.specs.Words.{place_of}
use Rattle.signed.specs.Signed.{signed_of}
use Rattle.numeral.specs.Integer.{largest_id, integer_of, signed_as, counter_of}
use Rattle.numeral.proofs.Integer.{integer-inv}
use Rattle.print.specs.Printed.{signed_text}
use Rattle.print.proofs.Back.{counter-back}
use Rattle.shape.specs.declared.Edition.{Edition}
use Rattle.shape.specs.declared.Edition.TheVariants.{V13, V14}
use Rattle.heads.specs.Heads.{label_names, is_v14, set_value, increment_value, label_value, label_head, label_fields, label_of}
use Rattle.heads.specs.Heads.{Label}
use Rattle.std.proofs.lemmas.Option.{same_Some}
use Rattle.heads.specs.declared.Label.{Label as LabelLine}
use Rattle.restated_laws.proofs.ListedBack.{integer-text}

abbrev is_value : (Option ℤ) → Bool
is_value (Some v) = true
is_value None = false

not-value : {v : ℤ} → None ≡ Some v → ⊥
not-value e = true≢false (sym (ap is_value e))

-- ---- A number without a sign
module _ (most : ℕ) (few : most ≤ largest_id) (field : List ℕ) (v : ℤ) where
  natural-again : signed_as false (integer_of 0 most field) ≡ Some v → signed_as false (integer_of 0 most (signed_text v)) ≡ Some v
  unfolding signed_as signed_of
  natural-again e = go (integer_of 0 most field) refl e
    where
      go : (n : (Option ℕ)) → integer_of 0 most field ≡ n → signed_as false n ≡ Some v → signed_as false (integer_of 0 most (signed_text v)) ≡ Some v
      go (Some n) q p =
          let m = (integer-inv 0 most field n q).most in
          let same : v ≡ pos n = cc in
          rw (same, integer-text 0 most n (omega arith) (omega arith) m)
      go None q p = absurd (not-value p)

-- ---- What an edition reads is read in 1.4, which has all labels
module _ (label : ℕ) (field : List ℕ) (v : ℤ) (small : nat_abs v ≤ largest_id) where
  counter-again : counter_of largest_id (signed_text v) ≡ Some v
  counter-again = counter-back largest_id v (omega arith) small

  set-again : (e : Edition) → set_value e label field ≡ Some v → set_value V14 label (signed_text v) ≡ Some v
  unfolding set_value is_v14
  set-again e = go (leb 1 label && leb label 9) (leb 10 label && leb label 12) (eqb label 13) (is_v14 e)
    where
      go : (a b c d : Bool)
          → cond a (counter_of largest_id field) (cond b (signed_as false (integer_of 0 1 field)) (cond (c && d) (signed_as false (integer_of 0 largest_id field)) None)) ≡ Some v
          → cond a (counter_of largest_id (signed_text v)) (cond b (signed_as false (integer_of 0 1 (signed_text v))) (cond (c && true) (signed_as false (integer_of 0 largest_id (signed_text v))) None))
          ≡ Some v
      go true b c d p = counter-again
      go false true c d p = natural-again 1 (omega arith) field v p
      go false false true true p = natural-again largest_id (omega arith) field v p
      go false false true false p = absurd (not-value p)
      go false false false d p = absurd (not-value p)

  increment-again : increment_value label field ≡ Some v → increment_value label (signed_text v) ≡ Some v
  unfolding increment_value
  increment-again = go (leb 1 label && leb label 9)
    where
      go : (a : Bool) → cond a (counter_of largest_id field) None ≡ Some v → cond a (counter_of largest_id (signed_text v)) None ≡ Some v
      go true p = counter-again
      go false p = absurd (not-value p)

  value-again : (e : Edition) (increment : Bool) → label_value e increment label field ≡ Some v → label_value V14 increment label (signed_text v) ≡ Some v
  unfolding label_value
  value-again e true p = increment-again p
  value-again e false p = set-again e p

-- and 1.3 has all but ONCE
pub value_before : (increment : Bool) (label : ℕ) (field : List ℕ) → (label ≡ 13 → ⊥) → label_value V13 increment label field ≡ label_value V14 increment label field
unfolding label_value set_value
value_before increment label field other = rw (ne_eqb label 13 other)

-- ---- The label of a line
abbrev is_label : (Option LabelLine) → Bool
is_label (Some line) = true
is_label None = false

not-label : {id label : ℕ} {v : ℤ} → None ≡ Label id v label → ⊥
not-label e = true≢false (sym (ap is_label e))

head-value : (i : (Option ℕ)) (x : (Option ℤ)) (k id : ℕ) (v : ℤ) (label : ℕ) → label_head i x k ≡ Label id v label → (x ≡ Some v) × (k ≡ label)
unfolding label_head
head-value (Some i) (Some x) k id v label e =
    let same = same_Some _ _ e in
    (ap (λ (l : LabelLine). Some l.value) same, ap (λ (l : LabelLine). l.label) same)
head-value (Some i) None k id v label e = absurd (not-label e)
head-value None x k id v label e = absurd (not-label e)

pub label-again : (e : Edition) (increment : Bool) (fs : List (List ℕ)) (id : ℕ) (v : ℤ) (label : ℕ) → nat_abs v ≤ largest_id → label_of e increment fs ≡ Label id v label
    → label_value V14 increment label (signed_text v) ≡ Some v
unfolding label_of label_fields
label-again e increment [] id v label small p = absurd (not-label p)
label-again e increment (f ∷ []) id v label small p = absurd (not-label p)
label-again e increment (f ∷ g ∷ []) id v label small p = absurd (not-label p)
label-again e increment (f ∷ g ∷ h ∷ []) id v label small p =
    let x = head-value (integer_of 1 largest_id f) (label_value e increment (place_of label_names h) g) (place_of label_names h) id v label p in
    value-again label g v small e increment (rw x.1 at x.0)
label-again e increment (f ∷ g ∷ h ∷ k ∷ fs) id v label small p = absurd (not-label p)
