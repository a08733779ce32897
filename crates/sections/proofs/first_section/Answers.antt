-- `sections::first_section` meets its contract. Assumes nothing.
use borrow.Author.Tests.{eq-eqb, ne_eqb}
use Rattle.sections.specs.Entering.{section_at}
use Rattle.sections.proofs.first_section.Goals as goal

pub returns-then-k-eq1 : goal.returns-then-k-eq1
unfolding section_at
returns-then-k-eq1 c = rw (eq-eqb _ 1 c.if-k-eq1.true) c.begin.ensures

pub returns : goal.returns
unfolding section_at
returns c = rw (ne_eqb _ 1 c.if-k-eq1.false) c.refused.ensures
