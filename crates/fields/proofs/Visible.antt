-- Texts of visible bytes alone, as printed numbers and names are: one word, one line, nothing that LINE refuses. Assumes nothing.
use Prim.Native.Nat.{ℕ, ◌≤◌, ◌<◌}
use mathlib.Core.Bool.{Bool, true, false, ◌&&◌}
use mathlib.Core.List.{List, [], ◌∷◌, ◌++◌}
use mathlib.Core.Path.{◌≡◌, refl}
use native.Mathlib.Omega.{arith}
use borrow.Author.Tests.{ne_eqb, le-leb, lt-leb, leb-true}
use lib.Dec.{eqb, leb}
use lib.ListN.{length}
use Rattle.text.specs.Marks.{is_blank, is_control, any_control}
use Rattle.text.proofs.Cases.{and_both}
use Rattle.text.proofs.Lines.{has_feed, ends_return, OneLine}
use Rattle.fields.proofs.Fields.{has_blank, Word}

-- from '!' to '~'
unfoldable pub is_visible : ℕ → Bool
is_visible b = leb 33 b && leb b 126

unfoldable pub all_visible : List ℕ → Bool
all_visible [] = true
all_visible (b ∷ s) = is_visible b && all_visible s

pub visible-least : (b : ℕ) → is_visible b ≡ true → 33 ≤ b
unfolding is_visible
visible-least b e = leb-true 33 b (and_both (leb 33 b) (leb b 126) e).0

pub visible-most : (b : ℕ) → is_visible b ≡ true → b ≤ 126
unfolding is_visible
visible-most b e = leb-true b 126 (and_both (leb 33 b) (leb b 126) e).1

pub visible-yes : (b : ℕ) → 33 ≤ b → b ≤ 126 → is_visible b ≡ true
unfolding is_visible
visible-yes b h k = rw (le-leb 33 b h) (le-leb b 126 k)

pub visible-append : (s t : List ℕ) → all_visible s ≡ true → all_visible t ≡ true → all_visible (s ++ t) ≡ true
unfolding all_visible
visible-append [] t h k = k
visible-append (b ∷ s) t h k =
    let a = and_both (is_visible b) (all_visible s) h in
    rw a.0 (visible-append s t a.1 k)

-- a visible byte is none of those that mean something by themselves
apart : (b c : ℕ) → is_visible b ≡ true → c < 33 → eqb b c ≡ false
apart b c h l = let k = visible-least b h in ne_eqb b c (λ (e : b ≡ c). omega arith)

no-blank : (s : List ℕ) → all_visible s ≡ true → has_blank s ≡ false
unfolding all_visible has_blank is_blank
no-blank [] h = refl
no-blank (b ∷ s) h =
    let a = and_both (is_visible b) (all_visible s) h in
    rw (apart b 32 a.0 (omega arith), apart b 9 a.0 (omega arith)) (no-blank s a.1)

no-feed : (s : List ℕ) → all_visible s ≡ true → has_feed s ≡ false
unfolding all_visible has_feed
no-feed [] h = refl
no-feed (b ∷ s) h =
    let a = and_both (is_visible b) (all_visible s) h in
    rw (apart b 10 a.0 (omega arith)) (no-feed s a.1)

no_return : (s : List ℕ) → all_visible s ≡ true → ends_return s ≡ false
unfolding all_visible ends_return
no_return [] h = refl
no_return (b ∷ []) h = apart b 13 (and_both (is_visible b) true h).0 (omega arith)
no_return (b ∷ c ∷ s) h = no_return (c ∷ s) (and_both (is_visible b) (is_visible c && all_visible s) h).1

pub visible_plain : (s : List ℕ) → all_visible s ≡ true → any_control s ≡ false
unfolding all_visible any_control is_control
visible_plain [] h = refl
visible_plain (b ∷ s) h =
    let a = and_both (is_visible b) (all_visible s) h in
    let l = visible-least b a.0 in
    let m = visible-most b a.0 in
    rw (lt-leb b 31 (omega arith), ne_eqb b 127 (λ (e : b ≡ 127). omega arith)) (visible_plain s a.1)

pub visible-word : (s : List ℕ) → 1 ≤ length s → all_visible s ≡ true → Word s
visible-word s l h = record { some = le-leb 1 (length s) l; solid = no-blank s h }

pub visible-line : (s : List ℕ) → all_visible s ≡ true → OneLine s
visible-line s h = record { whole = no-feed s h; bare = no_return s h }
