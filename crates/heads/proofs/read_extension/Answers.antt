-- `heads::read_extension` meets its contract: by cases on whether the line has three fields. Assumes nothing.
use mathlib.Core.Path.{sym, ◌∙◌}
use Rattle.heads.proofs.Forms.{extension-three, extension-other}
use Rattle.heads.proofs.read_extension.Goals.{Else-field_count-ne3}
use Rattle.heads.proofs.read_extension.Goals as goal

pub returns-then-field_count-ne3 : goal.returns-then-field_count-ne3
returns-then-field_count-ne3 c = extension-other _ (λ e. c.if-field_count-ne3.true (c.field_count.ensures ∙ e))

pub returns : goal.returns
returns c =
    c.extension_in.ensures ∙ extension-three _ (sym c.field_count.ensures ∙ c.if-field_count-ne3.false) _ _ _ c.field.ensures c.field-2.ensures c.field-3.ensures
