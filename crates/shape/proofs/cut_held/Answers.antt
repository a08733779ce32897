-- `shape::cut_held` meets its contract: no line, or one that is cut off. Assumes nothing.
use Prim.Native.Nat.{ℕ, ◌-◌, ◌≤◌}
use mathlib.Core.List.{List}
use mathlib.Core.Path.{◌≡◌, sym, ap}
use native.Mathlib.Nat.{add-zero}
use native.Mathlib.Omega.{arith}
use lib.ListN.{length, take, drop, drop_of_length-le}
use Rattle.text.specs.Lines.{bare_len, pass_len, bare_of, line_at}
use Rattle.text.specs.Marks.{any_control, mark_of, breaks_line, is_comment, cut_at}
use Rattle.text.specs.declared.Piece.{Piece}
use Rattle.text.proofs.Cut.{add-sub-left}
use Rattle.text.proofs.Clean.{cut-at, cut-clean}
use Rattle.shape.specs.Stored.{mark_item, item_of, held_at}
use Rattle.shape.specs.declared.Held.{Held}
use Rattle.shape.specs.declared.Item.{Item}
use Rattle.shape.specs.declared.Item.TheVariants.{Bad}
use Rattle.shape.proofs.cut_held.Goals.{After-cut_line-line}
use Rattle.shape.proofs.cut_held.Goals as goal

module _ (text : List ℕ) (at : ℕ) where
  held_none : length text ≤ at → ◌≡◌ {A = Held} (record { item = Bad; next = at }) (held_at text at)
  unfolding held_at bare_of bare_len line_at pass_len item_of breaks_line mark_of any_control is_comment mark_item
  held_none h = rw (drop_of_length-le text h) (ap (λ (n : ℕ). record { item = Bad; next = n }) (sym (add-zero at)))

  held_cut : (r : Piece) → r ≡ cut_at text at → (i : Item) → i ≡ item_of (take (r.stop - at) (drop at text)) → ◌≡◌ {A = Held} (record { item = i; next = r.next }) (held_at text at)
  unfolding held_at cut_at line_at bare_of
  held_cut r p i q = rw (q, p, add-sub-left)

pub returns-then-text-at : goal.returns-then-text-at
returns-then-text-at c = held_none _ _ c.if-text-at.true

pub slice_bounds-cut_item-count : goal.slice_bounds-cut_item-count
slice_bounds-cut_item-count c = (cut-at _ _ _ c.cut_line-line.ensures (omega arith)).ordered

pub slice_bounds-cut_item-start : goal.slice_bounds-cut_item-start
slice_bounds-cut_item-start c = (cut-at _ _ _ c.cut_line-line.ensures (omega arith)).ordered

pub slice_bounds-cut_item-end : goal.slice_bounds-cut_item-end
slice_bounds-cut_item-end c = (cut-at _ _ _ c.cut_line-line.ensures (omega arith)).within

pub cut_item-requires : goal.cut_item-requires
cut_item-requires c = cut-clean _ _ _ c.cut_line-line.ensures

pub returns : goal.returns
returns c = held_cut _ _ _ c.cut_line-line.ensures _ c.cut_item.ensures
