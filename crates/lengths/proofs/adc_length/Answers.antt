-- `lengths::adc_length` meets its contract. Assumes nothing.
use Rattle.std.proofs.Common.{◌∙◌}
use Rattle.signed.proofs.Machine.{rd-at}
use Rattle.lengths.proofs.Measured.{adc-is}
use Rattle.lengths.proofs.adc_length.Goals as goal

pub returns : goal.returns
returns c =
    let count = rd-at _ c.number.type_inv ∙ c.number.ensures in
    let dwell = rd-at _ c.number-2.type_inv ∙ c.number-2.ensures in
    adc-is _ _ _ _ _ _ _ _ _ count c.unsigned_abs.ensures.value dwell c.unsigned_abs-2.ensures.value c.micros.ensures c.nanos.ensures c.plus.ensures
