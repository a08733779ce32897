-- `numeral::read_integer` meets its contract. The loop reads digits (`Reading`), and the range is asked at the end. Assumes nothing.
use Prim.Native.Nat.{◌≤◌}
use lib.ListN.{length}
use Rattle.numeral.proofs.Reading.{Reading}
use Rattle.numeral.proofs.read_integer.Given as goal

abbrev pub invariant-loop-b : goal.invariant-loop-b
invariant-loop-b l = (1 ≤ length l.field) × (length l.field ≤ 10) × Reading l.field l.b-index l.v
