-- `events::first_misfit` meets its contract: nothing is marked in an array of zeros. Assumes nothing.
use Rattle.events.proofs.Marking.{known_start}
use Rattle.events.proofs.first_misfit.Goals as goal

pub first_unfit-requires : goal.first_unfit-requires
first_unfit-requires c = known_start _ _ _ 163840
