use native.Mathlib.Omega.{arith}
use Rattle.duplicates.proofs.count_names.Goals as goal

pub loop-k-init : goal.loop-k-init
loop-k-init c = omega arith

pub overflow_add-count : goal.overflow_add-count
overflow_add-count c = omega arith

pub loop-k-preserved : goal.loop-k-preserved
loop-k-preserved c = omega arith
