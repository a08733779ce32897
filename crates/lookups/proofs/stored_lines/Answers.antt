-- `lookups::stored_lines` meets its contract. Assumes nothing.
use Rattle.signed.proofs.Machine.{rd-is}
use mathlib.Core.Path.{◌∙◌}
use Rattle.lookups.specs.Looking.{stored_up}
use Rattle.lookups.proofs.Looking.{sound-file, faulty-none, sound-found}
use Rattle.lookups.proofs.stored_lines.Goals as goal

pub returns-then-is_faulty : goal.returns-then-is_faulty
unfolding stored_up
returns-then-is_faulty c = faulty-none _ _ _ c.is_faulty.ensures _ _ c.if-is_faulty.true

pub stored_lines-requires : goal.stored_lines-requires
stored_lines-requires c = sound-file _ _ _ c.is_faulty.ensures c.if-is_faulty.false

pub returns : goal.returns
unfolding stored_up
returns c = c.stored_lines.ensures ∙ rw (rd-is c.ranges.id) (sound-found _ _ _ c.is_faulty.ensures _ _ c.if-is_faulty.false)
