-- `stored::stored_lines` meets its contract: what stands at the place are the stored lines. Assumes nothing.
use Rattle.signed.proofs.Machine.{rd-is}
use Rattle.grammar.proofs.Parts.{Holds}
use Rattle.stored.specs.Shapes.{stored_of}
use Rattle.stored.proofs.Stored.{stored-holds}
use Rattle.stored.proofs.stored_lines.Goals.{After-stored_place-place}
use Rattle.stored.proofs.stored_lines.Goals as goal

-- what stands at the place
there : (c : After-stored_place-place) → Holds c.args.file.now c.stored_place-place.result (stored_of c.args.file.now c.args.id)
there c = rw (c.stored_place-place.ensures, rd-is c.ranges.id) (stored-holds _ _)

pub slice_bounds-result-count : goal.slice_bounds-result-count
slice_bounds-result-count c = (there c).ordered

pub slice_bounds-result-start : goal.slice_bounds-result-start
slice_bounds-result-start c = (there c).ordered

pub slice_bounds-result-end : goal.slice_bounds-result-end
slice_bounds-result-end c = (there c).within

pub returns : goal.returns
returns c = (there (goal.at.returns c).After-stored_place-place).there
