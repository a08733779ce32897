-- `shape::line_item` meets its contract: LINE first. Assumes nothing.
use mathlib.Core.Path.{sym, ◌∙◌}
use Rattle.shape.proofs.Items.{item-broken}
use Rattle.shape.proofs.line_item.Goals as goal

pub returns-then-breaks_line : goal.returns-then-breaks_line
returns-then-breaks_line c = item-broken _ (sym c.breaks_line.ensures ∙ c.if-breaks_line.true)
