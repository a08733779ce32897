-- `questions::is_big` meets its contract. Assumes nothing.
use mathlib.Core.Path.{◌∙◌}
use borrow.Author.Tests.{lt-ltb}
use Rattle.questions.proofs.Asking.{big-file, big-site}
use Rattle.questions.proofs.is_big.Goals as goal

pub returns-then-file-gt16777216 : goal.returns-then-file-gt16777216
returns-then-file-gt16777216 c = lt-ltb _ _ c.if-file-gt16777216.true ∙ big-file _ _ c.if-file-gt16777216.true

pub returns-else-file-gt16777216 : goal.returns-else-file-gt16777216
returns-else-file-gt16777216 c = big-site _ _ c.if-file-gt16777216.false
