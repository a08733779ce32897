-- `shape_text::put_shape` meets its contract, by whether the samples are written as they are. Assumes nothing.
use mathlib.Core.Path.{◌∙◌, sym}
use Rattle.shape_text.proofs.Outcome.{text-plain, text-packed}
use Rattle.shape_text.proofs.put_shape.Goals as goal

pub returns-then-is_plain_text : goal.returns-then-is_plain_text
returns-then-is_plain_text c =
    text-plain _ _ _ c.packed_count.ensures (sym c.is_plain_text.ensures ∙ c.if-is_plain_text.true) c.put_plain.ensures

pub returns : goal.returns
returns c =
    text-packed _ _ _ c.packed_count.ensures (sym c.is_plain_text.ensures ∙ c.if-is_plain_text.false) c.put_packed.ensures
