-- `definitions::site_fault` meets its contract. The loop's invariant: the lines that are left are at fault if all are. Assumes nothing.
use Prim.Native.Nat.{◌-◌}
use mathlib.Core.Path.{◌≡◌}
use lib.ListN.{length, drop}
use Rattle.text.specs.Lines.{lines_of}
use Rattle.definitions.specs.Definitions.{site_fault}
use Rattle.definitions.proofs.Seeking.{fault_in}
use Rattle.definitions.proofs.site_fault.Given as goal

abbrev pub invariant-loop-at : goal.invariant-loop-at
invariant-loop-at l = fault_in (lines_of (drop l.at l.site)) ≡ site_fault l.site

abbrev pub decreases-loop-at : goal.decreases-loop-at
decreases-loop-at l = length l.site - l.at
