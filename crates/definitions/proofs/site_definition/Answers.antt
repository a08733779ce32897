-- `definitions::site_definition` meets its contract: what stands at the place is the value. Assumes nothing.
use Rattle.grammar.proofs.Parts.{Holds}
use Rattle.definitions.specs.Definitions.{site_definitions, sought}
use Rattle.definitions.proofs.Placing.{site-holds}
use Rattle.definitions.proofs.site_definition.Goals.{After-site_place-place}
use Rattle.definitions.proofs.site_definition.Goals as goal

-- what stands at the place
there : (c : After-site_place-place)
    → Holds c.args.site.now c.site_place-place.result (sought c.args.key.now (site_definitions c.args.site.now))
there c = rw c.site_place-place.ensures (site-holds _ _)

pub slice_bounds-result-count : goal.slice_bounds-result-count
slice_bounds-result-count c = (there (goal.at.slice_bounds-result-count c).After-site_place-place).ordered

pub slice_bounds-result-start : goal.slice_bounds-result-start
slice_bounds-result-start c = (there (goal.at.slice_bounds-result-start c).After-site_place-place).ordered

pub slice_bounds-result-end : goal.slice_bounds-result-end
slice_bounds-result-end c = (there (goal.at.slice_bounds-result-end c).After-site_place-place).within

pub returns : goal.returns
returns c = (there (goal.at.returns c).After-site_place-place).there
