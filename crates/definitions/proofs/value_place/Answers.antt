-- `definitions::value_place` meets its contract: the value stands within its line, and so within the text. Assumes nothing.
use native.Mathlib.Omega.{arith}
use Prim.Native.Nat.{◌-◌}
use lib.ListN.{take, drop}
use Rattle.grammar.specs.Definitions.{value_of}
use Rattle.grammar.specs.Parts.{moved_by}
use Rattle.grammar.proofs.Parts.{Holds, value-holds, moved_holds}
use Rattle.definitions.proofs.value_place.Goals.{After-value_part-value}
use Rattle.definitions.proofs.value_place.Goals as goal

-- where the value stands in the text
there : (c : After-value_part-value)
    → Holds c.args.text.now (moved_by c.args.at c.value_part-value.result) (value_of (take (c.args.stop - c.args.at) (drop c.args.at c.args.text.now)))
there c = rw c.value_part-value.ensures (moved_holds _ _ _ c.requires.at_le_stop c.requires.stop_in_bounds (value-holds _))

pub overflow_add-result : goal.overflow_add-result
unfolding moved_by
overflow_add-result c = record { fits = omega (arith, (there (goal.at.overflow_add-result c).After-value_part-value).ordered, (there (goal.at.overflow_add-result c).After-value_part-value).within) }

pub overflow_add-result-2 : goal.overflow_add-result-2
unfolding moved_by
overflow_add-result-2 c = record { fits = omega (arith, (there (goal.at.overflow_add-result-2 c).After-value_part-value).ordered, (there (goal.at.overflow_add-result-2 c).After-value_part-value).within) }

pub returns : goal.returns
unfolding moved_by
returns c = rw c.value_part-value.ensures
