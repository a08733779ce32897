-- `sources::is_bad_site` meets its contract. Assumes nothing.
use Rattle.sources.specs.Sources.{bad_site_for}
use Rattle.sources.proofs.Asking.{not-due, due}
use Rattle.sources.proofs.is_bad_site.Goals as goal

pub returns-then-is_below : goal.returns-then-is_below
unfolding bad_site_for
returns-then-is_below c = not-due _ c.is_below.ensures c.if-is_below.true

pub returns : goal.returns
unfolding bad_site_for
returns c = due c.is_below.ensures c.if-is_below.false c.site_fault.ensures
