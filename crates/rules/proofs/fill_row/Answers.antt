-- `rules::fill_row` meets its contract. Assumes nothing.
use Rattle.std.proofs.Common.{◌≡◌, pos, true, false, arith, ◌∙◌}
use Rattle.signed.proofs.Machine.{rd-at}
use Rattle.signed.specs.Signed.{same_z}
use Rattle.rules.proofs.Filling.{row-past, row_block, row_other}
use Rattle.rules.proofs.fill_row.Goals.{else-k-rows-via-then-k-rows+else-number-eq-BLOCK, else-k-rows-via-else-k-rows}
use Rattle.rules.proofs.fill_row.Goals as goal

pub returns-then-number-eq-BLOCK : goal.returns-then-number-eq-BLOCK
unfolding same_z
returns-then-number-eq-BLOCK c =
    let block : same_z c.number.result (pos 1) ≡ true = grind arith in
    row_block _ _ _ _ _ _ _ _ c.number.ensures c.if-k-rows.true block _ (rd-at _ c.length_number-ns.type_inv ∙ c.length_number-ns.ensures)

pub returns-else-k-rows : goal.returns-else-k-rows
unfolding same_z
returns-else-k-rows c =
    elim c.else-k-rows.branch [
      | else-k-rows-via-then-k-rows+else-number-eq-BLOCK w ↦
          let other : same_z w.number.result (pos 1) ≡ false = grind arith in row_other _ _ _ _ _ _ _ _ w.number.ensures other
      | else-k-rows-via-else-k-rows w ↦ row-past _ _ _ _ _ _ _ w.if-k-rows.false
    ]
