-- `duplicates::is_left` meets its contract. Assumes nothing.
use Rattle.duplicates.proofs.Beyond.{section-there, sort-not, sort-if-met}
use Rattle.duplicates.proofs.is_left.Goals as goal

pub returns-then-section_in-own : goal.returns-then-section_in-own
returns-then-section_in-own c = sort-not _ c.args.sort _ _ c.section_with-own.ensures c.section_in.ensures c.if-section_in-own.true

pub bounds-st-own : goal.bounds-st-own
bounds-st-own c = rw c.section_with-own.ensures (section-there c.args.sort).1

pub returns : goal.returns
returns c = sort-if-met _ c.args.sort _ _ c.section_with-own.ensures c.section_in.ensures c.if-section_in-own.false
