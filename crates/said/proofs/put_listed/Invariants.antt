-- `said::put_listed`: what was written and the lines of the rows that are left make up the text (`LinesPut`). Assumes nothing.
use Rattle.said.specs.Said.{row_line}
use Rattle.said.proofs.Saying.{LinesPut}
use Rattle.said.proofs.put_listed.Given as goal

abbrev pub invariant-loop-k : goal.invariant-loop-k
invariant-loop-k l = LinesPut (row_line l.by.target l.by.raster.0 l.form l.by.uses.rows.now l.by.uses.n) l.by.uses.n l.initial.out l.at l.place l.out l.k
