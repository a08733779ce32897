-- `shape_text::packed_count` meets its contract. Assumes nothing.
use Rattle.std.proofs.Common.{arith}
use Rattle.shape_text.proofs.Lines.{counted_none, counted-one, counted-run, counted-all}
use Rattle.shape_text.proofs.packed_count.Goals.{then-end-i-eq1, else-end-i-eq1}
use Rattle.shape_text.proofs.packed_count.Goals as goal

pub loop-i-init : goal.loop-i-init
loop-i-init c = counted_none _

pub loop-i-preserved : goal.loop-i-preserved
loop-i-preserved c =
    elim c.if-end-i-eq1.branch [
      | then-end-i-eq1 w ↦ rw w.n-is (counted-one c.loop-i.invariant c.run_end-end.ensures w.if-end-i-eq1.true)
      | else-end-i-eq1 w ↦ rw w.n-is (counted-run c.loop-i.invariant c.run_end-end.ensures w.if-end-i-eq1.false)
    ]

pub returns : goal.returns
returns c = counted-all c.loop-i.invariant (omega arith)
