-- `shape_section::put_shapes`: what was written and the shapes among the rows that are left make up the text (`LinesPut`). Assumes nothing.
use Rattle.said.proofs.Saying.{LinesPut}
use Rattle.shape_section.specs.Shapes.{shape_line}
use Rattle.shape_section.proofs.put_shapes.Given as goal

abbrev pub invariant-loop-k : goal.invariant-loop-k
invariant-loop-k l = LinesPut (shape_line l.target l.rows l.samples) l.n l.initial.out l.at l.place l.out l.k
