-- `lengths::row_length` meets its contract: each kind of row by its own arm. Assumes nothing.
use Rattle.std.proofs.Common.{arith}
use Rattle.signed.specs.Signed.{same_z}
use Rattle.lengths.proofs.Measured.{trigger-is}
use Rattle.lengths.specs.Lengths.{length_of, length_at}
use Rattle.lengths.proofs.row_length.Goals as goal

pub returns-in-2 : goal.returns-in-2
unfolding length_of length_at same_z
returns-in-2 c = grind arith

pub returns-in-3 : goal.returns-in-3
unfolding length_of length_at same_z
returns-in-3 c = grind arith

pub returns-in-4 : goal.returns-in-4
unfolding length_of length_at same_z
returns-in-4 c = grind arith

pub returns-in-5 : goal.returns-in-5
unfolding length_of length_at same_z
returns-in-5 c = grind arith

pub returns-in-6 : goal.returns-in-6
unfolding length_of length_at same_z
returns-in-6 c = grind arith

pub returns-in-9 : goal.returns-in-9
unfolding length_of length_at same_z
returns-in-9 c = let sum = trigger-is _ _ _ _ _ c.micros-in-9.ensures c.micros-in-9-2.ensures c.plus.ensures in grind arith

pub returns-in_default : goal.returns-in_default
unfolding length_of length_at same_z
returns-in_default c = grind arith
