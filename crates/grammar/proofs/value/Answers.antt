-- `grammar::value` meets its contract. Assumes nothing.
use Prim.Native.Nat.{ℕ}
use mathlib.Core.List.{List}
use mathlib.Core.Path.{◌≡◌}
use Rattle.fields.specs.declared.Part.{Part}
use Rattle.grammar.specs.Definitions.{value_part, value_of}
use Rattle.grammar.proofs.Parts.{Holds, value-holds}
use Rattle.grammar.proofs.value.Goals as goal

-- what stands behind the key
there : (line : List ℕ) (p : Part) → p ≡ value_part line → Holds line p (value_of line)
there line p e = rw e (value-holds _)

pub slice_bounds-result-count : goal.slice_bounds-result-count
slice_bounds-result-count c = (there _ _ c.value_part-part.ensures).ordered

pub slice_bounds-result-start : goal.slice_bounds-result-start
slice_bounds-result-start c = (there _ _ c.value_part-part.ensures).ordered

pub slice_bounds-result-end : goal.slice_bounds-result-end
slice_bounds-result-end c = (there _ _ c.value_part-part.ensures).within

pub returns : goal.returns
returns c = (there _ _ c.value_part-part.ensures).there
