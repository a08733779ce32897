-- `said::is_of_form` meets its contract. Assumes nothing.
use mathlib.Core.Path.{ap, ◌∙◌}
use Rattle.signed.proofs.Machine.{rd-at}
use Rattle.sayable.specs.Sayable.{is_kind}
use Rattle.said.proofs.is_of_form.Goals as goal

pub returns : goal.returns
returns c = c.is_kind.ensures ∙ ap (is_kind _ _) (rd-at _ c.form_number.type_inv ∙ c.form_number.ensures)
