-- `sources::is_below` meets its contract. Assumes nothing.
use Rattle.sources.proofs.Asking.{below_none, below-is}
use Rattle.sources.proofs.is_below.Goals as goal

pub returns-in-Ok : goal.returns-in-Ok
returns-in-Ok c = below_none _ _ _ _ c.in-Ok.is

pub returns-in-Err : goal.returns-in-Err
returns-in-Err c = below-is _ _ _ _ c.in-Err.is _ c.number.ensures
