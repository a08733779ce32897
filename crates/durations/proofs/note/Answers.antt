-- `durations::note` meets its contract. Assumes nothing.
use Rattle.durations.proofs.Filling.{noted-new, noted-none}
use native.Mathlib.Omega.{arith}
use mathlib.Core.Path.{sym}
use lib.Seq.{length-take-le}
use Rattle.durations.proofs.note.Goals as goal

pub slice_bounds-is_new-end-2 : goal.slice_bounds-is_new-end-2
slice_bounds-is_new-end-2 c = sym (length-take-le _ _ (omega arith))

pub returns-then-is_new : goal.returns-then-is_new
returns-then-is_new c = let r = noted-new c.args.list.now c.args.count c.args.rows.now c.args.k _ c.is_new.ensures c.if-is_new.true _ c.nanos_at.ensures in record { value = r.0; list_after = r.1 }

pub returns : goal.returns
returns c = let r = noted-none c.args.list.now c.args.count c.args.rows.now c.args.k _ c.is_new.ensures c.if-is_new.false in record { value = r.0; list_after = r.1 }
