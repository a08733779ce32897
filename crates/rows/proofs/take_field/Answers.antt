-- `rows::take_field` meets its contract: the next field, if there is one. Assumes nothing.
use Prim.Native.Nat.{◌<◌, ℕ, ◌-◌}
use lib.ListN.{length, drop, take}
use mathlib.Core.List.{List, ◌∷◌}
use mathlib.Core.Path.{◌≡◌, sym, ◌∙◌}
use mathlib.Core.Bool.{false}
use Rattle.fields.specs.Fields.{fields_of, field_at}
use Rattle.fields.specs.declared.Part.{Part}
use Rattle.fields.proofs.Cut.{field-at, no_field}
use Rattle.std.proofs.Common.{Some}
use Rattle.rows.specs.declared.Cell.{Cell}
use Rattle.rows.specs.declared.Cell.TheVariants.{One, Two}
use Rattle.rows.specs.Inside.{TakenIs}
use Rattle.rows.specs.Cells.{cell_of, with, row_from}
use Rattle.columns.specs.Columns.{is_absent}
use Rattle.columns.specs.declared.Kind.{Kind}
use Rattle.rows.proofs.Cells.{one-wide, two-wide}
use Rattle.rows.proofs.Rows.{row-short, row_field, with-bad, with-same}
use Rattle.rows.proofs.take_field.Goals as goal

module _ (Line : List ℕ) (At : ℕ) (Column : Kind) (r : Part) (e : r ≡ field_at Line At) (h : r.start < length Line) (q : is_absent Column ≡ false) where
  present : (ks : List Kind)
      → row_from (Column ∷ ks) (fields_of (drop At Line)) ≡ with (cell_of Column (take (r.stop - r.start) (drop r.start Line))) (row_from ks (fields_of (drop r.stop Line)))
  present ks = rw (field-at Line At r e h).field (row_field Column ks _ _ q)

  -- what was taken, one number or two
  taken : (cell : Cell) → cell_of Column (take (r.stop - r.start) (drop r.start Line)) ≡ Some cell → TakenIs Line At Column (Some (cell, r.stop))
  taken (One v) p = record { wide = one-wide _ _ _ p; rest = λ ks. present ks ∙ with-same _ _ _ p }
  taken (Two a b) p = record { wide = two-wide _ _ _ _ p; rest = λ ks. present ks ∙ with-same _ _ _ p }

pub returns-then-line-start : goal.returns-then-line-start
returns-then-line-start c = λ ks. rw (no_field _ _ _ c.next_field-field.ensures c.if-line-start.true) (row-short _ ks c.requires)

pub slice_bounds-cell_of-count : goal.slice_bounds-cell_of-count
slice_bounds-cell_of-count c = (field-at _ _ _ c.next_field-field.ensures c.if-line-start.false).ordered

pub slice_bounds-cell_of-start : goal.slice_bounds-cell_of-start
slice_bounds-cell_of-start c = (field-at _ _ _ c.next_field-field.ensures c.if-line-start.false).ordered

pub slice_bounds-cell_of-end : goal.slice_bounds-cell_of-end
slice_bounds-cell_of-end c = (field-at _ _ _ c.next_field-field.ensures c.if-line-start.false).within

pub returns : goal.returns
returns c =
    taken c.args.line.now c.args.at c.args.kind _ c.next_field-field.ensures c.if-line-start.false c.requires c.in_ok-cell.cell (sym c.cell_of.ensures ∙ c.in_ok-cell.was)

pub returns-in_err-cell : goal.returns-in_err-cell
returns-in_err-cell c =
    rw c.from_residual.ensures
    (λ ks. present _ _ _ _ c.next_field-field.ensures c.if-line-start.false c.requires ks ∙ with-bad _ _ (sym c.cell_of.ensures ∙ c.in_err-cell.was))
