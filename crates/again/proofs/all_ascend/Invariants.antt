-- `again::all_ascend` meets its contract. The loop's invariant: what is left has the largest number nowhere just where all has. Assumes nothing.
use Rattle.std.proofs.Common.{◌≡◌, drop}
use Rattle.again.specs.Noting.{none_largest, all_ascend}
use Rattle.again.proofs.all_ascend.Given as goal

abbrev pub invariant-loop-z : goal.invariant-loop-z
invariant-loop-z l = none_largest (drop l.z-index l.most) ≡ all_ascend l.most
