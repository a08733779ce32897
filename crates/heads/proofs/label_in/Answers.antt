-- `heads::label_in` meets its contract: by cases on what the ID and the value are read as. Assumes nothing.
use mathlib.Core.Path.{◌∙◌}
use native.Mathlib.Omega.{arith}
use Rattle.signed.proofs.Machine.{rd-at}
use Rattle.heads.proofs.Forms.{label-no-id, label-no-value, label-read}
use Rattle.heads.proofs.label_in.Goals as goal

pub returns-in_err-id : goal.returns-in_err-id
returns-in_err-id c = c.from_residual.ensures ∙ label-no-id _ _ _ _ _ _ c.read_integer.ensures c.in_err-id.was

pub returns-in_err-value : goal.returns-in_err-value
returns-in_err-value c =
    c.from_residual-in_err-value.ensures
    ∙ label-no-value _ _ _ _ _ _ c.read_integer.ensures _ c.label_place-label.ensures _ c.label_value.ensures _ c.in_ok-id.was c.in_err-value.was

pub returns : goal.returns
returns c =
    label-read _ _ _ _ _ _ c.read_integer.ensures _ c.label_place-label.ensures _ c.label_value.ensures _ c.in_ok-id.was _ _ c.in_ok-value.was (rd-at _ (omega arith))
