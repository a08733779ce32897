-- `restater::answer` meets its contract. Assumes nothing.
use Rattle.restater.proofs.Saying.{answer-said, answer-refused}
use Rattle.restater.proofs.answer.Goals as goal

pub returns-in-Ok : goal.returns-in-Ok
returns-in-Ok c = answer-said _ _ _ _ _ _ _ _ _ c.in-Ok.is _ _ c.say.ensures

pub returns-in-Err : goal.returns-in-Err
returns-in-Err c = answer-refused _ _ _ _ _ _ _ _ _ c.in-Err.is
