-- `heads::extension_in` meets its contract. Assumes nothing.
use mathlib.Core.Path.{sym, ◌∙◌}
use Rattle.heads.specs.Heads.{extension_word}
use Rattle.heads.proofs.Forms.{extension-other-word, extension-unnamed, extension-no-number, extension-read}
use Rattle.heads.proofs.extension_in.Goals as goal

pub returns-then-not-same : goal.returns-then-not-same
unfolding extension_word
returns-then-not-same c = extension-other-word _ _ _ (sym c.same.ensures ∙ c.if-not-same.true)

pub returns-then-not-is_name : goal.returns-then-not-is_name
unfolding extension_word
returns-then-not-is_name c = extension-unnamed _ _ _ (sym c.same.ensures ∙ c.if-not-same.false) (sym c.is_name.ensures ∙ c.if-not-is_name.true)

pub returns-in_err-number : goal.returns-in_err-number
unfolding extension_word
returns-in_err-number c =
    c.from_residual.ensures
    ∙ extension-no-number _ _ _ (sym c.same.ensures ∙ c.if-not-same.false) (sym c.is_name.ensures ∙ c.if-not-is_name.false) _ c.read_integer.ensures c.in_err-number.was

pub returns : goal.returns
unfolding extension_word
returns c =
    extension-read _ _ _ (sym c.same.ensures ∙ c.if-not-same.false) (sym c.is_name.ensures ∙ c.if-not-is_name.false) _ c.read_integer.ensures _ c.in_ok-number.was _ c.extension_code.ensures
