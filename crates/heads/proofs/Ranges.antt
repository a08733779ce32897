-- What a line that was read holds is in its range. Assumes nothing.
use Rattle.std.proofs.Common.{None, Option, Some}
use Prim.Native.Nat.{ℕ, ◌≤◌}
use mathlib.Core.Bool.{Bool, true, false, cond, ◌&&◌}
use mathlib.Core.List.{List, [], ◌∷◌}
use mathlib.Core.Path.{◌≡◌, refl, ◌∙◌, ap}
use native.Mathlib.Omega.{arith}
use lib.Dec.{leb, eqb}
use lib.IntN.{ℤ, nat_abs}
use lib.ListN.{drop}
use Rattle.text.specs.Words.{same_bytes, place_of}
use Rattle.text.proofs.Cases.{cond_yes}
use Rattle.text.proofs.Words.{place-le}
use Rattle.signed.proofs.Sign.{size-signed}
use Rattle.numeral.specs.Digits.{is_minus}
use Rattle.numeral.specs.Integer.{largest_id, integer_of, signed_as, counter_of}
use Rattle.numeral.proofs.Integer.{integer-inv}
use Rattle.shape.specs.declared.Edition.{Edition}
use Rattle.heads.specs.Heads.{label_names, is_v14, set_value, increment_value, label_value, label_head, label_fields, label_of, is_name, extension_names, extension_word, extension_head, extension_fields, extension_of, word_number_of}
use Rattle.heads.specs.Heads.{Label, Extension}
use Rattle.heads.specs.declared.Label.{Label as LabelLine}
use Rattle.heads.specs.declared.Extension.{Extension as ExtensionLine}
use Rattle.std.proofs.lemmas.Option.{same_Some}
use Rattle.heads.proofs.Forms.{value-unknown}

-- ---- a name's place in its list
label-most : (w : List ℕ) → place_of label_names w ≤ 13
unfolding label_names
label-most w = place-le label_names w

code-most : (w : List ℕ) → place_of extension_names w ≤ 3
unfolding extension_names
code-most w = place-le extension_names w

-- ---- a value's size
abbrev Small : (Option ℤ) → Type 0
Small (Some z) = nat_abs z ≤ largest_id
Small None = Unit

small-as : (s : Bool) (most : ℕ) (field : List ℕ) → most ≤ largest_id → Small (signed_as s (integer_of 0 most field))
unfolding signed_as
small-as s most field h = go (integer_of 0 most field) refl
  where
    go : (n : (Option ℕ)) → integer_of 0 most field ≡ n → Small (signed_as s n)
    go (Some n) e = let i = (integer-inv 0 most field n e).most in let a = size-signed s n in omega arith
    go None e = tt

small-cond : (b : Bool) (x y : (Option ℤ)) → Small x → Small y → Small (cond b x y)
small-cond true x y h k = h
small-cond false x y h k = k

value-small : (edition : Edition) (increment : Bool) (label : ℕ) (field : List ℕ) → Small (label_value edition increment label field)
unfolding label_value increment_value set_value counter_of
value-small edition increment label field =
    let counter = small-as (is_minus field) largest_id (drop (cond (is_minus field) 1 0) field) (omega arith) in
    small-cond increment _ _ (small-cond (leb 1 label && leb label 9) _ _ counter tt)
    (small-cond (leb 1 label && leb label 9) _ _ counter
    (small-cond (leb 10 label && leb label 12) _ _ (small-as false 1 field (omega arith))
    (small-cond (eqb label 13 && is_v14 edition) _ _ (small-as false largest_id field (omega arith)) tt)))

-- ---- what was read, by the answers that it was read from
not-label : {i : ℕ} {z : ℤ} {m : ℕ} → None ≡ Label i z m → ⊥
not-label e = let z : ◌≡◌ {A = ℕ} 0 1 = cc in omega arith

not-extension : {type code : ℕ} → None ≡ Extension type code → ⊥
not-extension e = let z : ◌≡◌ {A = ℕ} 0 1 = cc in omega arith

record LabelFrom (n : (Option ℕ)) (v : (Option ℤ)) (k i : ℕ) (z : ℤ) (m : ℕ) : Type 0 where
  id : n ≡ Some i
  value : v ≡ Some z
  place : k ≡ m

label-from : (n : (Option ℕ)) (v : (Option ℤ)) (k i : ℕ) (z : ℤ) (m : ℕ) → label_head n v k ≡ Label i z m → LabelFrom n v k i z m
unfolding label_head
label-from (Some j) (Some y) k i z m e =
    let same = same_Some _ _ e in
    record { id = ap (λ (l : LabelLine). Some l.id) same; value = ap (λ (l : LabelLine). Some l.value) same; place = ap (λ (l : LabelLine). l.label) same }
label-from (Some j) None k i z m e = absurd (not-label e)
label-from None v k i z m e = absurd (not-label e)

extension-from : (n : (Option ℕ)) (k type code : ℕ) → extension_head n k ≡ Extension type code → (n ≡ Some type) × (k ≡ code)
unfolding extension_head
extension-from (Some j) k type code e =
    let same = same_Some _ _ e in
    (ap (λ (l : ExtensionLine). Some l.number) same, ap (λ (l : ExtensionLine). l.code) same)
extension-from None k type code e = absurd (not-extension e)

-- ---- the ranges
fields-range : (edition : Edition) (increment : Bool) (f g h : List ℕ) (id : ℕ) (v : ℤ) (n : ℕ) → label_fields edition increment f g h ≡ Label id v n
    → (1 ≤ id) × (id ≤ 2147483647) × (nat_abs v ≤ 2147483647) × (1 ≤ n) × (n ≤ 13)
unfolding label_fields
fields-range edition increment f g h id v n e =
    let place = place_of label_names h in
    let from = label-from (integer_of 1 largest_id f) (label_value edition increment place g) place id v n e in
    let i = integer-inv 1 largest_id f id from.id in
    let known : (place ≡ 0 → ⊥) = λ (p : place_of label_names h ≡ 0). not-value (value-unknown edition increment place g p ∙ from.value) in
    let small : nat_abs v ≤ largest_id = rw from.value at (value-small edition increment place g) in
    let most = label-most h in
    let same = from.place in
    (i.least, i.most, small, some n (λ (p : n ≡ 0). known (same ∙ p)), omega arith)
  where
    not-value : {z : ℤ} → None ≡ Some z → ⊥
    not-value e = let z : ◌≡◌ {A = ℕ} 0 1 = cc in omega arith

    some : (n : ℕ) → (n ≡ 0 → ⊥) → 1 ≤ n
    some n k = omega arith

pub label-range : (edition : Edition) (increment : Bool) (fs : List (List ℕ)) (id : ℕ) (v : ℤ) (n : ℕ) → label_of edition increment fs ≡ Label id v n
    → (1 ≤ id) × (id ≤ 2147483647) × (nat_abs v ≤ 2147483647) × (1 ≤ n) × (n ≤ 13)
unfolding label_of
label-range edition increment [] id v n e = absurd (not-label e)
label-range edition increment (f ∷ []) id v n e = absurd (not-label e)
label-range edition increment (f ∷ g ∷ []) id v n e = absurd (not-label e)
label-range edition increment (f ∷ g ∷ h ∷ []) id v n e = fields-range edition increment f g h id v n e
label-range edition increment (f ∷ g ∷ h ∷ k ∷ fs) id v n e = absurd (not-label e)

pub extension-range : (fs : List (List ℕ)) (type code : ℕ) → extension_of fs ≡ Extension type code → (1 ≤ type) × (type ≤ 2147483647) × (code ≤ 3)
unfolding extension_of extension_fields
extension-range [] type code e = absurd (not-extension e)
extension-range (f ∷ []) type code e = absurd (not-extension e)
extension-range (f ∷ g ∷ []) type code e = absurd (not-extension e)
extension-range (f ∷ g ∷ h ∷ []) type code e =
    let read = extension_head (integer_of 1 largest_id h) (place_of extension_names g) in
    let c = cond_yes (same_bytes f extension_word && is_name g) read not-extension e in
    let from = extension-from (integer_of 1 largest_id h) (place_of extension_names g) type code c.1 in
    let i = integer-inv 1 largest_id h type from.0 in
    let most = code-most g in
    let same = from.1 in
    (i.least, i.most, omega arith)
extension-range (f ∷ g ∷ h ∷ k ∷ fs) type code e = absurd (not-extension e)

not-natural : {n : ℕ} → None ≡ Some n → ⊥
not-natural e = let z : ◌≡◌ {A = ℕ} 0 1 = cc in omega arith

pub word-range : (word : List ℕ) (low high : ℕ) (fields : List (List ℕ)) (n : ℕ) → word_number_of word low high fields ≡ Some n → (low ≤ n) × (n ≤ high)
unfolding word_number_of
word-range word low high [] n e = absurd (not-natural e)
word-range word low high (f ∷ []) n e = absurd (not-natural e)
word-range word low high (f ∷ g ∷ []) n e = go (same_bytes f word) e
  where
    go : (b : Bool) → cond b (integer_of low high g) None ≡ Some n → (low ≤ n) × (n ≤ high)
    go true e = let i = integer-inv low high g n e in (i.least, i.most)
    go false e = absurd (not-natural e)
word-range word low high (f ∷ g ∷ h ∷ fs) n e = absurd (not-natural e)
