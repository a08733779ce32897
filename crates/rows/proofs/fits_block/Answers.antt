-- `rows::fits_block` meets its contract: each column by its own case. Assumes nothing.
use Rattle.rows.proofs.Blocks.{fits-nothing, fits-id, fits-delay, fits-duration, fits-reference}
use Rattle.rows.proofs.fits_block.Goals as goal

pub returns-then-v-eq0 : goal.returns-then-v-eq0
returns-then-v-eq0 c = fits-nothing _ _ _ c.if-j-eq0.true c.if-v-eq0.true

pub returns-then-j-eq0 : goal.returns-then-j-eq0
returns-then-j-eq0 c = fits-id _ _ _ c.if-j-eq0.true c.if-v-eq0.false

pub returns-in-V13 : goal.returns-in-V13
returns-in-V13 c = fits-delay _ _ _ c.if-j-eq1.true c.in-V13.is

pub returns-in-V14 : goal.returns-in-V14
returns-in-V14 c = fits-duration _ _ _ c.if-j-eq1.true c.in-V14.is

pub returns : goal.returns
returns c = fits-reference _ _ _ c.if-j-eq0.false c.if-j-eq1.false c.requires
