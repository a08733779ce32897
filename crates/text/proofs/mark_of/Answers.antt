-- `text::mark_of` meets its contract. Assumes nothing.
use Rattle.std.proofs.Common.{◌∙◌, sym, arith}
use borrow.Author.Tests.{ltb-false}
use Rattle.text.proofs.Marks.{mark-none, mark-comment, mark-section, mark-plain}
use Rattle.text.proofs.mark_of.Goals as goal

pub returns-in-None : goal.returns-in-None
returns-in-None c = mark-none c.args.line.now _ c.skip.ensures (ltb-false _ _ (sym c.in-None.ensures.lookup.0))

pub returns-in-Some-eq35 : goal.returns-in-Some-eq35
returns-in-Some-eq35 c =
    let h = c.in-Some-eq35.ensures.lookup.3 in
    mark-comment c.args.line.now _ c.skip.ensures h.0 (sym (h.1 0) ∙ c.in-Some-eq35.field-0-test)

pub returns-in-Some-eq91 : goal.returns-in-Some-eq91
returns-in-Some-eq91 c =
    let h = c.in-Some-eq91.ensures.lookup.3 in
    let f = sym (h.1 0) ∙ c.in-Some-eq91.field-0-test in
    mark-section c.args.line.now _ c.skip.ensures h.0 (omega arith) f

pub returns-in-Some : goal.returns-in-Some
returns-in-Some c =
    let h = c.in-Some.ensures.lookup.3 in
    let f = h.1 0 in
    mark-plain c.args.line.now _ c.skip.ensures h.0 (rw f at c.in-Some.field-0-test.0.1) (rw f at c.in-Some.field-0-test.1)
