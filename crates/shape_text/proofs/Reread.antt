-- Lines that hold one decimal each, an LF behind each of them, are read as these decimals. Assumes nothing.
use Prim.Native.Nat.{ℕ, suc}
use mathlib.Core.Bool.{true}
use mathlib.Core.List.{List, [], ◌∷◌, ◌++◌}
use mathlib.Core.Path.{◌≡◌, refl, ap, ◌∙◌}
use lib.ListN.{length}
use Rattle.text.specs.Lines.{lines_of}
use Rattle.fields.proofs.Visible.{all_visible, visible-line}
use Rattle.text.proofs.Lines.{lines-line}
use Rattle.numeral.specs.declared.Decimal.{Decimal}
use Rattle.shape.specs.Stored.{item_of, is_sound, all_sound, with_item, values_in, values_of}
use Rattle.shape.specs.declared.Item.TheVariants.{Value}
use Rattle.shape_text.specs.Written.{ended_lines}

-- a line of visible bytes that is read as a decimal
pub record Holds (line : List ℕ) (d : Decimal) : Type 0 where
  pub visible : all_visible line ≡ true
  pub item : item_of line ≡ Value d

pub data HoldAll : List (List ℕ) → List Decimal → Type 0 where
  no_line : HoldAll [] []
  a-line : {l : List ℕ} {d : Decimal} {ls : List (List ℕ)} {ds : List Decimal} → Holds l d → HoldAll ls ds → HoldAll (l ∷ ls) (d ∷ ds)

pub hold-append : {ks ls : List (List ℕ)} {cs ds : List Decimal} → HoldAll ks cs → HoldAll ls ds → HoldAll (ks ++ ls) (cs ++ ds)
hold-append no_line q = q
hold-append (a-line h p) q = a-line h (hold-append p q)

pub hold-length : {ls : List (List ℕ)} {ds : List Decimal} → HoldAll ls ds → length ls ≡ length ds
hold-length no_line = refl
hold-length (a-line h p) = ap suc (hold-length p)

-- ---- The lines are read as they were
hold-lines : {ls : List (List ℕ)} {ds : List Decimal} → HoldAll ls ds → lines_of (ended_lines ls) ≡ ls
unfolding ended_lines
hold-lines no_line = unfold lines_of in refl
hold-lines (a-line {l} {d} {ls} h p) = lines-line (ended_lines ls) (visible-line l h.visible) ∙ ap (λ (ks : List (List ℕ)). l ∷ ks) (hold-lines p)

-- ---- None is at fault, and they hold these decimals
hold-sound : {ls : List (List ℕ)} {ds : List Decimal} → HoldAll ls ds → all_sound ls ≡ true
unfolding all_sound is_sound
hold-sound no_line = refl
hold-sound (a-line h p) = rw h.item (hold-sound p)

hold-values : {ls : List (List ℕ)} {ds : List Decimal} → HoldAll ls ds → values_in ls ≡ ds
unfolding values_in with_item
hold-values no_line = refl
hold-values (a-line h p) = rw (h.item, hold-values p)

-- ---- What a text is read as
pub record Reads (text : List ℕ) (ds : List Decimal) : Type 0 where
  pub sound : all_sound (lines_of text) ≡ true
  pub values : values_of text ≡ ds

pub hold-reads : {ls : List (List ℕ)} {ds : List Decimal} → HoldAll ls ds → Reads (ended_lines ls) ds
unfolding values_of
hold-reads p = record { sound = ap all_sound (hold-lines p) ∙ hold-sound p; values = ap values_in (hold-lines p) ∙ hold-values p }
