-- `events::misfits` meets its contract: nothing is marked. Assumes nothing.
use Rattle.events.proofs.Marking.{known_start}
use Rattle.events.proofs.misfits.Goals as goal

pub is_unfit-requires : goal.is_unfit-requires
is_unfit-requires c = known_start _ _ _ 1
