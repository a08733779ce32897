-- `repeats::gives_row` meets its contract. Assumes nothing.
use mathlib.Core.Path.{◌∙◌}
use Rattle.signed.proofs.Machine.{rd-is}
use Rattle.repeats.proofs.Having.{gives_none, gives_one}
use Rattle.repeats.proofs.gives_row.Goals as goal

pub returns-then-row_count-eq0 : goal.returns-then-row_count-eq0
returns-then-row_count-eq0 c = gives_none _ _ c.row_count.ensures _ _ c.if-row_count-eq0.true

pub returns : goal.returns
returns c = c.is_row_of.ensures ∙ rw (rd-is c.ranges.class, rd-is c.ranges.id) (gives_one _ _ c.row_count.ensures _ _ c.if-row_count-eq0.false)
