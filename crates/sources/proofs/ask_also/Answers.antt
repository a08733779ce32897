-- `sources::ask_also` meets its contract. Assumes nothing.
use Rattle.sources.proofs.Asking.{asked-site, asked-raster, asked-read}
use Rattle.sources.proofs.ask_also.Goals as goal

pub returns-then-is_bad_site : goal.returns-then-is_bad_site
returns-then-is_bad_site c = rw c.refused.ensures (asked-site _ _ _ _ _ c.is_bad_site.ensures c.if-is_bad_site.true)

pub returns-then-is_lacking : goal.returns-then-is_lacking
returns-then-is_lacking c = rw c.refused-then-is_lacking.ensures (asked-raster _ _ _ _ _ c.is_bad_site.ensures c.if-is_bad_site.false _ c.is_lacking.ensures c.if-is_lacking.true)

pub returns : goal.returns
returns c = asked-read _ _ _ _ _ c.is_bad_site.ensures c.if-is_bad_site.false _ c.is_lacking.ensures c.if-is_lacking.false
