-- `sections::edition_of` meets its contract. Assumes nothing.
use borrow.Author.Tests.{eq-eqb, ne_eqb}
use Rattle.sections.specs.Version.{edition_of}
use Rattle.sections.proofs.edition_of.Goals as goal

pub returns-then-minor-eq3 : goal.returns-then-minor-eq3
unfolding edition_of
returns-then-minor-eq3 c = rw (eq-eqb _ 3 c.if-minor-eq3.true)

pub returns : goal.returns
unfolding edition_of
returns c = rw (ne_eqb _ 3 c.if-minor-eq3.false)
