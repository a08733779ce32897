use Rattle.repeats.proofs.RowParts.{row-parts}
use Rattle.duplicates.proofs.Parts.{parts-start, parts-turn}
use Rattle.repeats.proofs.first_of_parts.Goals as goal

pub loop-part-init : goal.loop-part-init
loop-part-init c = parts-start _ _ _ _ _ _ _

pub loop-part-preserved : goal.loop-part-preserved
loop-part-preserved c = parts-turn _ _ _ _ _ c.requires.le_parts c.loop-part.invariant c.first_in.ensures c.earlier-first.ensures

pub returns : goal.returns
returns c = row-parts _ _ c.requires.noted c.requires.le_parts c.loop-part.invariant c.loop-part-test.false
