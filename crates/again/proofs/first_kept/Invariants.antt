-- `again::first_kept` meets its contract. The loop's invariant: the first such row is the first of those that are left, and those that are passed were met (`Keeping`). Assumes nothing.
use Rattle.again.proofs.Asking.{Keeping}
use Rattle.again.proofs.first_kept.Given as goal

abbrev pub invariant-loop-k : goal.invariant-loop-k
invariant-loop-k l = Keeping l.initial.set l.most l.rows l.n l.parts l.part l.set l.k
