-- `file::walk_start` meets its contract. Assumes nothing.
use Rattle.file.proofs.Marking.{front-is}
use Rattle.file.proofs.walk_start.Goals as goal

pub returns : goal.returns
returns c = front-is _ c.start.ensures
