-- `rows::block_number` meets its contract: the digits behind the blanks, if there are any, and their range. Assumes nothing.
use mathlib.Core.Path.{sym, ◌∙◌}
use Rattle.rows.proofs.Numbers.{gathered-told, number_is}
use Rattle.rows.proofs.Blocks.{block-digits}
use Rattle.rows.proofs.block_number.Goals as goal

pub returns : goal.returns
returns c =
    number_is (gathered-told c.gather_line.ensures c.in_ok-v.was) c.if-stop-start.false _ (block-digits _ _ c.requires)
    (sym c.fits_block.ensures ∙ c.if-not-fits_block.false) _ c.skip-start.ensures
