-- `shape_text::put_plain` meets its contract. The loop's invariant: what was written and the lines of the samples from i on make up the text. Assumes nothing.
use Rattle.shape_text.proofs.Lines.{PlainTo}
use Rattle.shape_text.proofs.put_plain.Given as goal

abbrev pub invariant-loop-z : goal.invariant-loop-z
invariant-loop-z l = PlainTo l.initial.out l.at l.samples l.z-index l.place l.out
