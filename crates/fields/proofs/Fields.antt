-- Words with blanks between them are read as those words. Assumes nothing.
use Prim.Native.Nat.{ℕ}
use mathlib.Core.Bool.{Bool, true, false, ◌||◌, true≢false}
use mathlib.Core.List.{List, [], ◌∷◌, ◌++◌, append-nil}
use mathlib.Core.Path.{◌≡◌, refl, sym, ap, ◌∙◌}
use lib.Dec.{leb}
use lib.ListN.{length}
use Rattle.text.specs.Lines.{onto}
use Rattle.text.specs.Marks.{is_blank}
use Rattle.fields.specs.Fields.{ends_field, fields_of, spaced, joined}
use Rattle.text.proofs.Lines.{or_left, or_right}

unfoldable pub has_blank : List ℕ → Bool
has_blank [] = false
has_blank (c ∷ s) = is_blank c || has_blank s

pub record Word (w : List ℕ) : Type 0 where
  pub some : leb 1 (length w) ≡ true
  pub solid : has_blank w ≡ false

pub data AllWords : List (List ℕ) → Type 0 where
  none_left : AllWords []
  one_more : {w : List ℕ} {ws : List (List ℕ)} → Word w → AllWords ws → AllWords (w ∷ ws)

-- ---- one word
module _ (rest : List ℕ) (f : ends_field rest ≡ true) where
  word-from : (c : ℕ) (w : List ℕ) → has_blank (c ∷ w) ≡ false → fields_of ((c ∷ w) ++ rest) ≡ (c ∷ w) ∷ fields_of rest
  unfolding has_blank fields_of ends_field onto
  word-from c [] e = rw (or_left (is_blank c) false e, f)
  word-from c (d ∷ w) e =
      let g : has_blank (d ∷ w) ≡ false = or_right (is_blank c) (has_blank (d ∷ w)) e in
      rw (word-from d w g, or_left (is_blank c) (has_blank (d ∷ w)) e, or_left (is_blank d) (has_blank w) g)

  some_word : (w : List ℕ) → leb 1 (length w) ≡ true → has_blank w ≡ false → fields_of (w ++ rest) ≡ w ∷ fields_of rest
  some_word [] h e = absurd (true≢false (sym h))
  some_word (c ∷ w) h e = word-from c w e

  pub fields-then : {w : List ℕ} → Word w → fields_of (w ++ rest) ≡ w ∷ fields_of rest
  fields-then {w} p = some_word w p.some p.solid

pub fields-word : {w : List ℕ} (rest : List ℕ) → Word w → fields_of (w ++ 32 ∷ rest) ≡ w ∷ fields_of rest
unfolding ends_field fields_of is_blank
fields-word rest p = fields-then (32 ∷ rest) refl p

pub fields-last : {w : List ℕ} → Word w → fields_of w ≡ w ∷ []
unfolding ends_field fields_of
fields-last {w} p = ap fields_of (sym (append-nil w)) ∙ fields-then [] refl p

-- ---- the law
-- what is spaced starts with a blank, if at all
ends-spaced : (ws : List (List ℕ)) → ends_field (spaced ws) ≡ true
unfolding spaced ends_field is_blank
ends-spaced [] = refl
ends-spaced (w ∷ ws) = refl

spaced-fields : {ws : List (List ℕ)} → AllWords ws → fields_of (spaced ws) ≡ ws
unfolding spaced fields_of is_blank
spaced-fields none_left = refl
spaced-fields (one_more {w} {ws} p q) = fields-then (spaced ws) (ends-spaced ws) p ∙ ap (λ (r : List (List ℕ)). w ∷ r) (spaced-fields q)

pub fields-joined : {ws : List (List ℕ)} → AllWords ws → fields_of (joined ws) ≡ ws
unfolding joined fields_of
fields-joined none_left = refl
fields-joined (one_more {w} {ws} p q) = fields-then (spaced ws) (ends-spaced ws) p ∙ ap (λ (r : List (List ℕ)). w ∷ r) (spaced-fields q)
