-- `repeats::is_asked` meets its contract. Assumes nothing.
use Rattle.again.specs.Noting.{is_open}
use Rattle.signed.proofs.Machine.{rd-is}
use mathlib.Core.Path.{◌≡◌, ap, ◌∙◌}
use Rattle.repeats.proofs.is_asked.Goals.{After-is_open}
use Rattle.repeats.proofs.is_asked.Goals as goal

-- whether the class is open
test : (c : After-is_open) → c.is_open.result ≡ is_open c.args.most.now c.args.class
test c = c.is_open.ensures ∙ ap (is_open _) (rd-is c.ranges.class)

pub returns-then-is_open : goal.returns-then-is_open
returns-then-is_open c = rw (← test (goal.at.returns-then-is_open c).After-is_open, c.if-is_open.true) c.is_in.ensures

pub returns : goal.returns
returns c = rw (← test (goal.at.returns c).After-is_open, c.if-is_open.false)
