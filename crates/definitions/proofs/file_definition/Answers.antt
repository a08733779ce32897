-- `definitions::file_definition` meets its contract: what stands at the place is the value. Assumes nothing.
use Rattle.grammar.proofs.Parts.{Holds}
use Rattle.definitions.specs.Definitions.{definitions_of, sought}
use Rattle.definitions.proofs.Placing.{file-holds}
use Rattle.definitions.proofs.file_definition.Goals.{After-file_place-place}
use Rattle.definitions.proofs.file_definition.Goals as goal

-- what stands at the place
there : (c : After-file_place-place)
    → Holds c.args.file.now c.file_place-place.result (sought c.args.key.now (definitions_of c.args.file.now))
there c = rw c.file_place-place.ensures (file-holds _ _)

pub slice_bounds-result-count : goal.slice_bounds-result-count
slice_bounds-result-count c = (there (goal.at.slice_bounds-result-count c).After-file_place-place).ordered

pub slice_bounds-result-start : goal.slice_bounds-result-start
slice_bounds-result-start c = (there (goal.at.slice_bounds-result-start c).After-file_place-place).ordered

pub slice_bounds-result-end : goal.slice_bounds-result-end
slice_bounds-result-end c = (there (goal.at.slice_bounds-result-end c).After-file_place-place).within

pub returns : goal.returns
returns c = (there (goal.at.returns c).After-file_place-place).there
