-- `lookups::is_faulty` meets its contract. Assumes nothing.
use mathlib.Core.Path.{refl, sym, ◌∙◌}
use Rattle.lookups.proofs.Looking.{no_line, faulty-big, faulty-line, faulty-site, faulty-again}
use Rattle.lookups.proofs.is_faulty.Goals as goal

pub returns-then-is_big : goal.returns-then-is_big
returns-then-is_big c = faulty-big _ _ _ c.is_big.ensures c.if-is_big.true

pub returns-then-has_fault : goal.returns-then-has_fault
returns-then-has_fault c = faulty-line _ _ _ c.is_big.ensures c.if-is_big.false _ c.has_fault.ensures c.if-has_fault.true

pub returns-then-site_fault : goal.returns-then-site_fault
returns-then-site_fault c = faulty-site _ _ _ c.is_big.ensures c.if-is_big.false _ c.has_fault.ensures c.if-has_fault.false _ c.site_fault.ensures c.if-site_fault.true

pub duplicate_line-requires : goal.duplicate_line-requires
duplicate_line-requires c = no_line _ _ refl (sym c.has_fault.ensures ∙ c.if-has_fault.false)

pub returns : goal.returns
returns c = faulty-again _ _ _ c.is_big.ensures c.if-is_big.false _ c.has_fault.ensures c.if-has_fault.false _ c.site_fault.ensures c.if-site_fault.false _ c.duplicate_line.ensures
