-- `lookups::definition` meets its contract. Assumes nothing.
use mathlib.Core.Path.{◌∙◌}
use Rattle.lookups.specs.Looking.{looked_up}
use Rattle.lookups.proofs.Looking.{faulty-none, sound-found}
use Rattle.lookups.proofs.definition.Goals as goal

pub returns-then-is_faulty : goal.returns-then-is_faulty
unfolding looked_up
returns-then-is_faulty c = faulty-none _ _ _ c.is_faulty.ensures _ _ c.if-is_faulty.true

pub returns : goal.returns
unfolding looked_up
returns c = c.definition.ensures ∙ sound-found _ _ _ c.is_faulty.ensures _ _ c.if-is_faulty.false
