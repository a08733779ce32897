-- `questions::is_missing` meets its contract. Assumes nothing.
use Rattle.questions.proofs.Asking.{missing-block, missing-none, missing-definitions}
use Rattle.questions.proofs.is_missing.Goals as goal

pub returns-then-not-block : goal.returns-then-not-block
returns-then-not-block c = missing-block _ _ _ (c.if-not-block.true)

pub returns-in-V13 : goal.returns-in-V13
returns-in-V13 c = missing-none _ _ _ (c.if-not-block.false) c.in-V13.is

pub returns-in-V14 : goal.returns-in-V14
returns-in-V14 c = missing-definitions _ _ _ (c.if-not-block.false) c.in-V14.is
