-- `numeral::read_integer` meets its contract. Assumes nothing.
use Rattle.std.proofs.Common.{◌∙◌, sym, ap, arith}
use borrow.Author.Tests.{eqb-true}
use Rattle.numeral.specs.Digits.{is_digit}
use Rattle.numeral.specs.Integer.{in_range}
use Rattle.numeral.proofs.Integer.{integer_empty, integer-long, integer-other, integer-yes, integer-bad, integer-value}
use Rattle.numeral.proofs.Reading.{turn, other, end}
use Rattle.numeral.proofs.read_integer.Goals.{then-is_empty-via-then-is_empty, then-is_empty-via-else-is_empty+then-field-gt-DIGITS}
use Rattle.numeral.proofs.read_integer.Goals as goal

pub returns-then-is_empty : goal.returns-then-is_empty
returns-then-is_empty c =
    integer-bad _ _ _ (elim c.then-is_empty.branch [
      | then-is_empty-via-then-is_empty w ↦ integer_empty _ (eqb-true _ _ (sym c.is_empty.ensures ∙ w.if-is_empty.true))
      | then-is_empty-via-else-is_empty+then-field-gt-DIGITS w ↦ integer-long _ w.if-field-gt-DIGITS.true
    ])

pub returns-then-not-is_ascii_digit : goal.returns-then-not-is_ascii_digit
unfolding is_digit
returns-then-not-is_ascii_digit c =
    let i = c.loop-b.invariant in
    integer-bad _ _ _ (integer-other _ i.0 i.1 (other _ _ _ i.2 (omega arith) (sym c.is_ascii_digit.ensures.value ∙ c.if-not-is_ascii_digit.true)))

pub loop-b-preserved : goal.loop-b-preserved
unfolding is_digit
loop-b-preserved c =
    let i = c.loop-b.invariant in
    (i.0, i.1, rw c.from.ensures (turn _ _ _ i.2 (omega arith) (sym c.is_ascii_digit.ensures.value ∙ c.if-not-is_ascii_digit.false)))

pub returns : goal.returns
returns c =
    let i = c.loop-b.invariant in
    let e = end _ _ _ i.2 (omega arith) in
    c.in_range.ensures ∙ ap (in_range _ _) (sym e.1) ∙ integer-value _ _ _ (integer-yes _ i.0 i.1 e.0)
