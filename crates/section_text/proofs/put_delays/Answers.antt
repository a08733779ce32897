-- `section_text::put_delays` meets its contract. Assumes nothing.
use Rattle.std.proofs.Common.{arith}
use Rattle.said.proofs.Saying.{lines-length, lines_end}
use Rattle.section_text.proofs.Putting.{delays-start, delays-turn}
use Rattle.section_text.proofs.put_delays.Goals as goal

pub loop-k-init : goal.loop-k-init
loop-k-init c = delays-start _ _ _ _ (omega arith) (omega arith)

pub used_with-next-requires : goal.used_with-next-requires
used_with-next-requires c = record { used_value = c.loop-k.invariant.many; k_lt_n = c.loop-k-test.true }

pub loop-k-preserved : goal.loop-k-preserved
loop-k-preserved c = delays-turn _ _ c.loop-k.invariant c.loop-k-test.true _ c.used_with-next.ensures c.put_delay-place.ensures

pub shape_of-out : goal.shape_of-out
shape_of-out c = lines-length _ _ c.loop-k.invariant.lines

pub returns : goal.returns
returns c = lines_end _ _ c.loop-k.invariant.lines c.loop-k-test.false
