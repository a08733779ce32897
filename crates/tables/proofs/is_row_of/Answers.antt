-- `tables::is_row_of` meets its contract. Assumes nothing.
use Rattle.std.proofs.Common.{◌≡◌, true, false, sym, ◌∙◌}
use borrow.Author.Tests.{eq-eqb, ne_eqb}
use Rattle.signed.specs.Signed.{same_z}
use Rattle.signed.proofs.Sign.{same_bits}
use Rattle.tables.proofs.Numbers.{row_other, row_same}
use Rattle.tables.proofs.is_row_of.Goals as goal

pub returns-then-number-id : goal.returns-then-number-id
returns-then-number-id c =
    let own : same_z c.number.result c.args.id ≡ true = sym (same_bits c.number.result c.args.id c.number.type_inv c.ranges.id.sfits) ∙ eq-eqb _ _ c.if-number-id.true in
    same_bits c.row_class.result c.args.class c.row_class.type_inv c.ranges.class.sfits ∙ row_same _ _ _ _ _ c.number.ensures own _ c.row_class.ensures

pub returns-else-number-id : goal.returns-else-number-id
returns-else-number-id c =
    let own : same_z c.number.result c.args.id ≡ false = sym (same_bits c.number.result c.args.id c.number.type_inv c.ranges.id.sfits) ∙ ne_eqb _ _ c.if-number-id.false in
    ne_eqb _ _ c.if-number-id.false ∙ row_other _ _ _ _ _ c.number.ensures own
