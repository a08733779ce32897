-- `extension_text::put_all_listed`: what was written and the lines of the rows that are left make up the text (`LinesPut`). Assumes nothing.
use Rattle.said.proofs.Saying.{LinesPut}
use Rattle.extension_text.specs.Extensions.{listed_line}
use Rattle.extension_text.proofs.put_all_listed.Given as goal

abbrev pub invariant-loop-k : goal.invariant-loop-k
invariant-loop-k l = LinesPut (listed_line l.target l.rows) l.n l.initial.out l.at l.place l.out l.k
