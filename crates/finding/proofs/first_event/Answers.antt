use Rattle.std.proofs.Common.{arith}
use Rattle.std.proofs.lemmas.Grind.{common_steps}
use Rattle.signed.specs.Signed.{same_z}
use Rattle.tables.proofs.Found.{such-start, such-here, such-further, such-none}
use Rattle.finding.specs.Hints.{is_event, first_event}
use Rattle.finding.proofs.first_event.Goals as goal

pub loop-k-init : goal.loop-k-init
unfolding first_event
loop-k-init c = such-start _ _

pub returns-then-row_class-ne-BLOCK : goal.returns-then-row_class-ne-BLOCK
unfolding is_event same_z
returns-then-row_class-ne-BLOCK c = grind (arith, common_steps, such-here)

pub loop-k-preserved : goal.loop-k-preserved
unfolding is_event same_z
loop-k-preserved c = grind (arith, common_steps, such-further)

pub returns : goal.returns
returns c = grind (arith, common_steps, such-none)
