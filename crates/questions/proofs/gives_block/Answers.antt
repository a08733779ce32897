-- `questions::gives_block` meets its contract. Assumes nothing.
use Rattle.std.proofs.Common.{◌≡◌, ◌∙◌, eqb, ℤ, pos}
use Rattle.signed.specs.Signed.{same_z}
use Rattle.signed.proofs.Sign.{same_number}
use mathlib.Core.Path.{ap}
use native.Mathlib.Omega.{arith}
use Rattle.questions.proofs.Blocks.{block_none, block_row}
use Rattle.questions.proofs.gives_block.Goals as goal

pub returns-then-row_count-eq0 : goal.returns-then-row_count-eq0
returns-then-row_count-eq0 c = block_none _ _ c.row_count.ensures c.if-row_count-eq0.true

pub returns : goal.returns
returns c = same_number c.number.result 1 c.number.type_inv (omega arith) ∙ ap (λ (z : ℤ). same_z z (pos 1)) c.number.ensures ∙ block_row _ _ c.row_count.ensures c.if-row_count-eq0.false
