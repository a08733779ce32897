-- `print::put_decimal` meets its contract: mantissa and exponent are written. Assumes nothing.
use Rattle.std.proofs.Common.{◌∙◌, rules}
use Rattle.signed.proofs.Machine.{rd-at}
use Rattle.numeral.proofs.Outcomes.{below-at, size-at}
use Rattle.print.proofs.Writing.{wrote-decimal}
use Rattle.print.proofs.put_decimal.Goals as goal

pub returns : goal.returns
returns c =
    let d = c.args.d in
    wrote-decimal _ _ _ _ (below-at d.mantissa (search rules)) (c.unsigned_abs.ensures.value ∙ size-at d.mantissa (search rules)) (rd-at d.exponent (search rules)) c.put_scaled.ensures
