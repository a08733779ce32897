-- The three forms, by the answers of the code's tests and readings. Assumes nothing.
use Rattle.std.proofs.Common.{None, Option, Some}
use Prim.Native.Nat.{ℕ, ◌≤◌}
use mathlib.Core.Bool.{Bool, true, false, cond}
use mathlib.Core.List.{List, [], ◌∷◌}
use mathlib.Core.Path.{◌≡◌, refl, sym, ap, ◌∙◌}
use native.Mathlib.Omega.{arith}
use borrow.Author.Tests.{le-leb, lt-leb, ne_eqb}
use lib.IntN.{ℤ}
use lib.ListN.{length, get_or}
use Rattle.text.specs.Words.{same_bytes, place_of}
use Rattle.text.proofs.Counted.{two-of, three-of}
use Rattle.numeral.specs.Integer.{largest_id, integer_of, signed_as, counter_of}
use Rattle.shape.specs.declared.Edition.{Edition}
use Rattle.shape.specs.declared.Edition.TheVariants.{V13, V14}
use Rattle.heads.specs.Heads.{label_names, is_v14, set_value, increment_value, label_value, label_head, label_fields, label_of, is_name, extension_names, extension_word, extension_head, extension_fields, extension_of, word_number_of}
use Rattle.heads.specs.Heads.{Label, Extension}

-- ---- a label's value
either : {A : Type 0} (b : Bool) {x : A} → x ≡ cond b x x
either true = refl
either false = refl

module _ (edition : Edition) (increment : Bool) (label : ℕ) (field : List ℕ) where
  pub value-unknown : label ≡ 0 → None ≡ label_value edition increment label field
  unfolding label_value increment_value set_value
  value-unknown e = rw e (either increment)

-- ---- a label: n is what the ID was read as, v what the value was, label the name's place
module _ (edition : Edition) (increment : Bool) (id value name : List ℕ) (n : (Option ℕ)) (p : n ≡ integer_of 1 largest_id id) where
  pub label-no-id : n ≡ None → None ≡ label_fields edition increment id value name
  unfolding label_fields label_head
  label-no-id e = rw (← p, e)

  module _ (label : ℕ) (k : label ≡ place_of label_names name) (v : (Option ℤ)) (q : v ≡ label_value edition increment label value) (i : ℕ) (e : n ≡ Some i) where
    pub label-no-value : v ≡ None → None ≡ label_fields edition increment id value name
    unfolding label_fields label_head
    label-no-value f = rw (← k, ← p, ← q, e, f)

    pub label-read : (z y : ℤ) → v ≡ Some z → y ≡ z → Label i y label ≡ label_fields edition increment id value name
    unfolding label_fields label_head
    label-read z y f g = rw (← k, ← p, ← q, e, f, g)

-- ---- an extension
module _ (word name number : List ℕ) where
  pub extension-other-word : same_bytes word extension_word ≡ false → None ≡ extension_fields word name number
  unfolding extension_fields
  extension-other-word e = rw e

  module _ (e : same_bytes word extension_word ≡ true) where
    pub extension-unnamed : is_name name ≡ false → None ≡ extension_fields word name number
    unfolding extension_fields
    extension-unnamed f = rw (e, f)

    module _ (f : is_name name ≡ true) (n : (Option ℕ)) (p : n ≡ integer_of 1 largest_id number) where
      pub extension-no-number : n ≡ None → None ≡ extension_fields word name number
      unfolding extension_fields extension_head
      extension-no-number g = rw (e, f, ← p, g)

      pub extension-read : (type : ℕ) → n ≡ Some type → (code : ℕ) → code ≡ place_of extension_names name
          → Extension type code ≡ extension_fields word name number
      unfolding extension_fields extension_head
      extension-read type g code k = rw (e, f, ← p, g, ← k)

-- ---- a line of three fields, f, g and h; and one of another number of them
module _ (fs : List (List ℕ)) (n : length fs ≡ 3) (f g h : List ℕ) (p : f ≡ get_or fs 0 []) (q : g ≡ get_or fs 1 []) (r : h ≡ get_or fs 2 []) where
  pub label-three : (edition : Edition) (increment : Bool) → label_fields edition increment f g h ≡ label_of edition increment fs
  unfolding label_of
  label-three edition increment = rw (p, q, r) (ap (label_of edition increment) (sym (three-of [] fs n)))

  pub extension-three : extension_fields f g h ≡ extension_of fs
  unfolding extension_of
  extension-three = rw (p, q, r) (ap extension_of (sym (three-of [] fs n)))

pub label-other : (edition : Edition) (increment : Bool) (fs : List (List ℕ)) → (length fs ≡ 3 → ⊥) → None ≡ label_of edition increment fs
unfolding label_of
label-other edition increment [] n = refl
label-other edition increment (f ∷ []) n = refl
label-other edition increment (f ∷ g ∷ []) n = refl
label-other edition increment (f ∷ g ∷ h ∷ []) n = absurd (n refl)
label-other edition increment (f ∷ g ∷ h ∷ k ∷ fs) n = refl

pub extension-other : (fs : List (List ℕ)) → (length fs ≡ 3 → ⊥) → None ≡ extension_of fs
unfolding extension_of
extension-other [] n = refl
extension-other (f ∷ []) n = refl
extension-other (f ∷ g ∷ []) n = refl
extension-other (f ∷ g ∷ h ∷ []) n = absurd (n refl)
extension-other (f ∷ g ∷ h ∷ k ∷ fs) n = refl

-- ---- a word and a number
module _ (word : List ℕ) (low high : ℕ) where
  module _ (fs : List (List ℕ)) (n : length fs ≡ 2) (f : List ℕ) (p : f ≡ get_or fs 0 []) where
    two : word_number_of word low high fs ≡ cond (same_bytes f word) (integer_of low high (get_or fs 1 [])) None
    unfolding word_number_of
    two = ap (word_number_of word low high) (two-of [] fs n) ∙ rw p

    pub number-other-word : same_bytes f word ≡ false → None ≡ word_number_of word low high fs
    number-other-word e = rw (two, e)

    pub number_read : same_bytes f word ≡ true → (g : List ℕ) → g ≡ get_or fs 1 [] → integer_of low high g ≡ word_number_of word low high fs
    number_read e g q = rw (two, e, q)

  pub number-other : (fs : List (List ℕ)) → (length fs ≡ 2 → ⊥) → None ≡ word_number_of word low high fs
  unfolding word_number_of
  number-other [] n = refl
  number-other (f ∷ []) n = refl
  number-other (f ∷ g ∷ []) n = absurd (n refl)
  number-other (f ∷ g ∷ h ∷ fs) n = refl
