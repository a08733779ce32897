-- `heads::read_word_number` meets its contract: by cases on whether the line has two fields. Assumes nothing.
use mathlib.Core.Path.{sym, ◌∙◌}
use Rattle.heads.proofs.Forms.{number_read, number-other-word, number-other}
use Rattle.heads.proofs.read_word_number.Goals.{Else-field_count-ne2}
use Rattle.heads.proofs.read_word_number.Goals as goal

pub returns-then-field_count-ne2 : goal.returns-then-field_count-ne2
returns-then-field_count-ne2 c = number-other _ _ _ _ (λ e. c.if-field_count-ne2.true (c.field_count.ensures ∙ e))

pub returns-then-not-same : goal.returns-then-not-same
returns-then-not-same c = number-other-word _ _ _ _ (sym c.field_count.ensures ∙ c.if-field_count-ne2.false) _ c.field.ensures (sym c.same.ensures ∙ c.if-not-same.true)

pub returns : goal.returns
returns c =
    c.read_integer.ensures ∙ number_read _ _ _ _ (sym c.field_count.ensures ∙ c.if-field_count-ne2.false) _ c.field.ensures (sym c.same.ensures ∙ c.if-not-same.false) _ c.field-2.ensures
