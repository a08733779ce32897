-- `durations::list_uses`: the loop fills the list (`Filling`). Assumes nothing.
use Rattle.durations.proofs.Filling.{Filling}
use Rattle.durations.proofs.list_uses.Given as goal

abbrev pub invariant-loop-k : goal.invariant-loop-k
invariant-loop-k l = Filling l.rows l.n l.initial.list l.list l.count l.k
