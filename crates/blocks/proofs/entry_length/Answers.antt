-- `blocks::entry_length` meets its contract. Assumes nothing.
use Rattle.std.proofs.Common.{◌≡◌, pos, false, refl, arith, ◌∙◌}
use Rattle.signed.proofs.Machine.{rd-at}
use Rattle.signed.specs.Signed.{same_z}
use Rattle.blocks.proofs.Lasting.{entry-is, entry-nothing}
use Rattle.blocks.proofs.entry_length.Goals as goal

pub returns-then-class-eq-TRIGGER : goal.returns-then-class-eq-TRIGGER
returns-then-class-eq-TRIGGER c =
    let type = rd-at _ c.number.type_inv ∙ c.number.ensures in
    let id = rd-at _ c.number-then-class-eq-TRIGGER.type_inv in
    c.met_length.ensures ∙ entry-is _ _ _ _ _ _ _ _ _ _ type c.extension_ref-class.ensures (rd-at _ c.extension_ref-class.type_inv) c.number-then-class-eq-TRIGGER.ensures id

pub returns : goal.returns
unfolding same_z
returns c =
    let type = rd-at _ c.number.type_inv ∙ c.number.ensures in
    let other : same_z c.extension_ref-class.result (pos 9) ≡ false = grind arith in
    entry-nothing _ _ _ _ _ type c.extension_ref-class.ensures refl other
