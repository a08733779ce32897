-- `again::first_of_parts` meets its contract. The loop's invariant: the first row of the parts that are passed (`Best`). Assumes nothing.
use Rattle.again.proofs.Asking.{Best}
use Rattle.again.proofs.first_of_parts.Given as goal

abbrev pub invariant-loop-part : goal.invariant-loop-part
invariant-loop-part l = Best l.most l.rows l.n l.parts l.first l.part
