-- `events::rises` meets its contract. The loop's invariant: all rise if those that are left rise behind the last. Assumes nothing.
use Rattle.std.proofs.Common.{◌≡◌, negsuc, drop}
use Rattle.events.specs.Use.{rises_from}
use Rattle.events.proofs.rises.Given as goal

abbrev pub invariant-loop-z : goal.invariant-loop-z
invariant-loop-z l = rises_from l.last (drop l.z-index l.times) ≡ rises_from (negsuc 0) l.times
