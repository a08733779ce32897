-- `extension_text::word_at` meets its contract. Assumes nothing.
use mathlib.Core.Path.{◌∙◌}
use Rattle.extension_text.proofs.Listing.{word_none, word_some}
use Rattle.extension_text.proofs.word_at.Goals as goal

pub returns-then-place-eq0 : goal.returns-then-place-eq0
returns-then-place-eq0 c = word_none _ _ c.if-place-eq0.true

pub returns : goal.returns
returns c = c.field.ensures ∙ word_some _ _ c.if-place-eq0.false
