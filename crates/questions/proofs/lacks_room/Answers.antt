-- `questions::lacks_room` meets its contract. Assumes nothing.
use mathlib.Core.Path.{◌∙◌}
use borrow.Author.Tests.{lt-ltb}
use Rattle.questions.proofs.Asking.{rows-lack, samples-lack}
use Rattle.questions.proofs.lacks_room.Goals as goal

pub returns-then-room-rows : goal.returns-then-room-rows
returns-then-room-rows c = lt-ltb _ _ c.if-room-rows.true ∙ rows-lack _ _ _ _ c.if-room-rows.true

pub returns-else-room-rows : goal.returns-else-room-rows
returns-else-room-rows c = samples-lack _ _ _ _ c.if-room-rows.false
