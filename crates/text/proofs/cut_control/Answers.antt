-- `text::cut_control` meets its contract. Assumes nothing.
use Rattle.text.proofs.Clean.{cut-here}
use Rattle.text.proofs.cut_control.Goals as goal

pub returns : goal.returns
returns c = cut-here _ _ c.requires.at_in_bounds c.requires.at_value _ c.next_line-line.ensures
