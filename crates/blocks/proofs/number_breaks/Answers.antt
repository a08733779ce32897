-- `blocks::number_breaks` meets its contract. Assumes nothing.
use Rattle.std.proofs.Common.{◌≡◌, pos, true, false, arith}
use Rattle.signed.proofs.Machine.{rd-at}
use Rattle.signed.specs.Signed.{same_z}
use Rattle.blocks.proofs.Asked.{breaks-nothing, breaks-class, breaks-missing, breaks-found}
use Rattle.blocks.proofs.number_breaks.Goals as goal

pub returns-then-id-eq0 : goal.returns-then-id-eq0
unfolding same_z
returns-then-id-eq0 c = let id : same_z c.number-id.result (pos 0) ≡ true = grind arith in breaks-nothing _ _ _ _ _ _ _ _ _ c.number-id.ensures id

pub returns-then-class-eq0 : goal.returns-then-class-eq0
unfolding same_z
returns-then-class-eq0 c =
    let id : same_z c.number-id.result (pos 0) ≡ false = grind arith in
    let class : same_z c.block_ref-class.result (pos 0) ≡ true = grind arith in
    breaks-class _ _ _ _ _ _ _ _ _ c.number-id.ensures id c.requires _ c.block_ref-class.ensures class

pub returns-then-timing-found : goal.returns-then-timing-found
unfolding same_z
returns-then-timing-found c =
    let id : same_z c.number-id.result (pos 0) ≡ false = grind arith in
    let class : same_z c.block_ref-class.result (pos 0) ≡ false = grind arith in
    breaks-missing _ _ _ _ _ _ _ _ _ c.number-id.ensures id c.requires _ c.block_ref-class.ensures class (rd-at _ c.block_ref-class.type_inv) (rd-at _ c.number-id.type_inv) _ c.find_once-found.ensures c.if-timing-found.true

pub returns : goal.returns
unfolding same_z
returns c =
    let id : same_z c.number-id.result (pos 0) ≡ false = grind arith in
    let class : same_z c.block_ref-class.result (pos 0) ≡ false = grind arith in
    breaks-found _ _ _ _ _ _ _ _ _ c.number-id.ensures id c.requires _ c.block_ref-class.ensures class (rd-at _ c.block_ref-class.type_inv) (rd-at _ c.number-id.type_inv) _ c.find_once-found.ensures c.if-timing-found.false _ _ c.found_length.ensures c.exceeds.ensures
