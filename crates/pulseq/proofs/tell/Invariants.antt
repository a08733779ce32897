-- `pulseq::tell` meets its contract. The loop lays one number at a turn (`Telling`). Assumes nothing.
use Rattle.pulseq.proofs.Telling.{Telling}
use Rattle.pulseq.proofs.tell.Given as goal

abbrev pub invariant-loop-i : goal.invariant-loop-i
invariant-loop-i l = Telling l.initial.answer l.numbers l.answer l.i
