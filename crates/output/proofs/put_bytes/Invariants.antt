-- `output::put_bytes` meets its contract. The loop's invariant: the first i bytes were laid over the output. Assumes nothing.
use lib.ListN.{take}
use Rattle.output.specs.Over.{Put}
use Rattle.output.proofs.put_bytes.Given as goal

abbrev pub invariant-loop-b : goal.invariant-loop-b
invariant-loop-b l = Put l.initial.out l.at (take l.b-index l.bytes) l.place l.out
