-- `durations::uses_in`: the loop counts (`Counting`). Assumes nothing.
use Rattle.durations.proofs.Using.{Counting}
use Rattle.durations.proofs.uses_in.Given as goal

abbrev pub invariant-loop-k : goal.invariant-loop-k
invariant-loop-k l = Counting l.rows l.n l.m l.count l.k
