-- `extension_text::put_all_listed` meets its contract. Assumes nothing.
use Rattle.std.proofs.Common.{arith}
use Rattle.said.proofs.Saying.{lines_start, lines-length, lines-turn, lines_end}
use Rattle.extension_text.proofs.put_all_listed.Goals as goal

pub loop-k-init : goal.loop-k-init
loop-k-init c = lines_start _ _ _ _ (omega arith) (omega arith)

pub loop-k-preserved : goal.loop-k-preserved
loop-k-preserved c = lines-turn _ _ c.loop-k.invariant c.loop-k-test.true c.put_listed-place.ensures

pub shape_of-out : goal.shape_of-out
shape_of-out c = lines-length _ _ c.loop-k.invariant

pub returns : goal.returns
returns c = lines_end _ _ c.loop-k.invariant c.loop-k-test.false
