-- The sections by the answers of the code's tests. Assumes nothing.
use Prim.Native.Nat.{ℕ, ◌≤◌, ◌<◌}
use mathlib.Core.Bool.{true, false}
use mathlib.Core.List.{List}
use mathlib.Core.Path.{◌≡◌, ap, ◌∙◌}
use mathlib.Core.Logic.{⊎_elim}
use native.Mathlib.Omega.{arith}
use borrow.Author.Tests.{ne_eqb, le-leb, lt-leb, eqb-true}
use lib.Dec.{eqb}
use Rattle.fields.specs.Fields.{trimmed}
use Rattle.text.specs.Words.{place_of}
use Rattle.text.proofs.Cases.{lt-or-ge}
use Rattle.shape.specs.declared.Edition.{Edition}
use Rattle.shape.specs.declared.Edition.TheVariants.{V13, V14}
use Rattle.sections.specs.Sections.{section_names, section_no, own_section, has_section, place_in}
use Rattle.places.specs.declared.Place.TheVariants.{Signature}

own-least : (e : Edition) → 10 ≤ own_section e
own-least V13 = omega arith
own-least V14 = omega arith

own-most : (e : Edition) → own_section e ≤ 11
own-most V13 = omega arith
own-most V14 = omega arith

-- ---- which sections an edition has
module _ (edition : Edition) (k : ℕ) where
  pub section-early : k < 2 → false ≡ has_section edition k
  unfolding has_section
  section-early h = let own = own-least edition in rw (lt-leb 2 k h, ne_eqb k (own_section edition) (λ (p : k ≡ own_section edition). omega arith))

  pub section-both : 2 ≤ k → k < 10 → true ≡ has_section edition k
  unfolding has_section
  section-both h l = rw (le-leb 2 k h, le-leb k 9 (omega arith))

  pub section-own : 10 ≤ k → eqb k (own_section edition) ≡ has_section edition k
  unfolding has_section
  section-own h = rw (le-leb 2 k (omega arith), lt-leb k 9 (omega arith))

  -- a section that an edition has is one of the eleven
  pub section-known : has_section edition k ≡ true → k < 12
  section-known e = ⊎_elim (λ (h : k < 10). omega arith) (λ (h : 10 ≤ k). let own = own-most edition in let same = eqb-true k (own_section edition) (section-own h ∙ e) in omega arith) (lt-or-ge k 10)

-- ---- the section that a line names
pub section-is : (line w : List ℕ) (k : ℕ) → k ≡ place_of section_names w → w ≡ trimmed line → k ≡ section_no line
unfolding section_no
section-is line w k p e = p ∙ ap (place_of section_names) e

-- ---- a section that is none of the first ten
pub place-last : (k : ℕ) → (k ≡ 2 → ⊥) → (k ≡ 3 → ⊥) → (k ≡ 4 → ⊥) → (k ≡ 5 → ⊥) → (k ≡ 6 → ⊥) → (k ≡ 7 → ⊥) → (k ≡ 8 → ⊥) → (k ≡ 9 → ⊥) → (k ≡ 10 → ⊥)
    → Signature ≡ place_in k
unfolding place_in
place-last k a b c d e f g h i =
    rw (ne_eqb k 2 a, ne_eqb k 3 b, ne_eqb k 4 c, ne_eqb k 5 d, ne_eqb k 6 e, ne_eqb k 7 f, ne_eqb k 8 g, ne_eqb k 9 h, ne_eqb k 10 i)
