-- `finding::note_rows` meets its contract. The loop's invariant: the rows that are left give the whole. Assumes nothing.
use Rattle.finding.proofs.Noting.{Left}
use Rattle.finding.proofs.note_rows.Given as goal

abbrev pub invariant-loop-k : goal.invariant-loop-k
invariant-loop-k l = Left l.initial.hints l.rows l.n l.base l.hints l.k
