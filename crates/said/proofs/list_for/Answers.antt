-- `said::list_for` meets its contract. Assumes nothing.
use Rattle.durations.proofs.Filling.{listed-room, listed-first, none-listed}
use Rattle.std.proofs.Common.{arith}
use Rattle.said.proofs.list_for.Goals as goal

pub returns-in-V13-Block : goal.returns-in-V13-Block
returns-in-V13-Block c = let u = c.list_uses.ensures in record { upper_bound = listed-room u; first_used = listed-first u }

pub returns-in_default : goal.returns-in_default
returns-in_default c = record { upper_bound = omega arith; first_used = none-listed _ _ }

pub returns-in_default-2 : goal.returns-in_default-2
returns-in_default-2 c = record { upper_bound = omega arith; first_used = none-listed _ _ }
