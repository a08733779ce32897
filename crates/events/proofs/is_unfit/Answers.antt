-- `events::is_unfit` meets its contract. Assumes nothing.
use Rattle.std.proofs.Common.{arith}
use Rattle.signed.specs.Signed.{same_z}
use Rattle.events.specs.Use.{misfits_at}
use Rattle.events.proofs.is_unfit.Goals as goal

pub returns-in-2-clause-value : goal.returns-in-2-clause-value
unfolding misfits_at same_z
returns-in-2-clause-value c = grind arith

pub returns-in-3-clause-value : goal.returns-in-3-clause-value
unfolding misfits_at same_z
returns-in-3-clause-value c = grind arith

pub returns-in_default-clause-value : goal.returns-in_default-clause-value
unfolding misfits_at same_z
returns-in_default-clause-value c = grind arith
