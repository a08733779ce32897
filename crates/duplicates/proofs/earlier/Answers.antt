-- `duplicates::earlier` meets its contract. Assumes nothing.
use Rattle.duplicates.proofs.Lines.{earlier-second, earlier-first, earlier-less, earlier-least}
use Rattle.duplicates.proofs.earlier.Goals as goal

pub returns-then-a-eq0 : goal.returns-then-a-eq0
returns-then-a-eq0 c = earlier-second _ _ c.if-a-eq0.true

pub returns-then-b-eq0 : goal.returns-then-b-eq0
returns-then-b-eq0 c = earlier-first _ _ c.if-a-eq0.false c.if-b-eq0.true

pub returns-then-b-a : goal.returns-then-b-a
returns-then-b-a c = earlier-less _ _ c.if-a-eq0.false c.if-b-eq0.false c.if-b-a.true

pub returns : goal.returns
returns c = earlier-least _ _ c.if-a-eq0.false c.if-b-eq0.false c.if-b-a.false
