-- `section_text::plain_number` meets its contract. Assumes nothing.
use Rattle.signed.specs.Signed.{signed_of}
use Rattle.signed.proofs.Machine.{rd-at}
use mathlib.Core.Path.{◌∙◌}
use Rattle.section_text.proofs.plain_number.Goals as goal

pub returns : goal.returns
unfolding signed_of
returns c = rd-at _ c.with_sign.type_inv ∙ c.with_sign.ensures
