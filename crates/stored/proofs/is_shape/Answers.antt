-- `stored::is_shape` meets its contract. Assumes nothing.
use Rattle.std.proofs.Common.{◌≡◌, ◌∙◌, sym, true, false, pos, get_or, arith}
use borrow.Author.Tests.{eq-eqb, ne_eqb}
use Rattle.signed.specs.Signed.{same_z}
use Rattle.signed.proofs.Sign.{same_bits, same_number}
use Rattle.stored.proofs.Stored.{shape-none, shape-other, shape_same}
use Rattle.stored.proofs.is_shape.Goals as goal

pub returns-then-row_count-eq0 : goal.returns-then-row_count-eq0
returns-then-row_count-eq0 c = shape-none _ _ _ c.row_count.ensures c.if-row_count-eq0.true

pub returns-then-kind-eq11 : goal.returns-then-kind-eq11
returns-then-kind-eq11 c =
    let own : same_z (get_or c.args.did.cells 0 (pos 0)) (pos 11) ≡ true = sym (same_number _ 11 c.kind-1.given (omega arith)) ∙ eq-eqb _ _ c.if-kind-eq11.true in
    same_bits _ _ c.number-1.given c.ranges.id.sfits ∙ shape_same _ _ _ c.row_count.ensures c.if-row_count-eq0.false own

pub returns-else-kind-eq11 : goal.returns-else-kind-eq11
returns-else-kind-eq11 c =
    let own : same_z (get_or c.args.did.cells 0 (pos 0)) (pos 11) ≡ false = sym (same_number _ 11 c.kind-1.given (omega arith)) ∙ ne_eqb _ _ c.if-kind-eq11.false in
    ne_eqb _ _ c.if-kind-eq11.false ∙ shape-other _ _ _ c.row_count.ensures c.if-row_count-eq0.false own
