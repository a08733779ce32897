-- `row_text::put_row` meets its contract. Assumes nothing.
use native.Mathlib.Omega.{arith}
use Rattle.columns.proofs.Columns.{columns-few}
use Rattle.row_text.proofs.Writing.{columns-start, columns-turn, columns-all, width_small}
use Rattle.row_text.proofs.put_row.Goals as goal

pub loop-j-init : goal.loop-j-init
loop-j-init c = (c.column_count-count.ensures, columns-start _ _ c.put_field-place.ensures)

pub put_column-place-requires : goal.put_column-place-requires
put_column-place-requires c =
    omega (arith, c.loop-j.invariant.0, c.loop-j.invariant.1.small, columns-few c.args.form c.args.edition)

pub overflow_add-w : goal.overflow_add-w
overflow_add-w c =
    record { fits = omega (arith, c.loop-j.invariant.0, c.loop-j.invariant.1.small, width_small c.kind_at-kind.result, c.width_of-w.ensures, columns-few c.args.form c.args.edition) }

pub loop-j-preserved : goal.loop-j-preserved
loop-j-preserved c = (
  c.loop-j.invariant.0,
  columns-turn c.loop-j.invariant.1 _ c.width_of-w.result (omega (arith, c.loop-j.invariant.0)) c.kind_at-kind.ensures c.width_of-w.ensures c.put_column-place.ensures,
)

pub returns : goal.returns
returns c = columns-all _ _ c.args.row.now c.put_field-place.ensures c.loop-j.invariant.1 (omega (arith, c.loop-j.invariant.0))
