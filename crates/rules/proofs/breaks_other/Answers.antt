-- `rules::breaks_other` meets its contract. Assumes nothing.
use Rattle.std.proofs.Common.{◌≡◌, pos, false, sym, arith, ◌∙◌}
use Rattle.std.proofs.lemmas.Grind.{common_steps}
use Rattle.signed.specs.Signed.{same_z}
use Rattle.tables.specs.Tables.{number_at}
use Rattle.rules.specs.Rules.{is_broken}
use Rattle.rules.specs.Inside.{breaks_other}
use Rattle.rules.proofs.Kept.{other_block, other-align}
use Rattle.rules.proofs.breaks_other.Goals.{then-dangles, else-dangles}
use Rattle.rules.proofs.breaks_other.Goals as goal

pub returns-then-number-eq-BLOCK : goal.returns-then-number-eq-BLOCK
returns-then-number-eq-BLOCK c =
    let block : number_at c.args.timing.rows.numbers.now c.args.k 0 ≡ pos 1 = grind arith in other_block _ _ _ _ _ _ block c.block_breaks.ensures

pub returns-then-loops : goal.returns-then-loops
unfolding breaks_other is_broken
returns-then-loops c = grind (arith, common_steps)

pub returns-else-loops : goal.returns-else-loops
unfolding same_z
returns-else-loops c =
    let other : same_z c.number.result (pos 1) ≡ false = grind arith in
    elim c.if-dangles.branch [
      | then-dangles w ↦ grind arith
      | else-dangles w ↦
          other-align _ _ _ _ _ _ c.dangles.ensures w.if-dangles.false w.loops.ensures (sym w.value-is ∙ c.if-loops.false) c.breaks_align.ensures c.number.ensures other
    ]
