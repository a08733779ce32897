-- `shape_section::put_shape` meets its contract. Assumes nothing.
use Rattle.signed.proofs.Machine.{rd-at}
use Rattle.shape_section.proofs.Putting.{shape-put}
use Rattle.grammar.specs.Steps.{shape_id_word, num_samples_word}
use mathlib.Core.Path.{◌∙◌}
use Rattle.shape_section.proofs.put_shape.Goals as goal

pub returns : goal.returns
unfolding shape_id_word num_samples_word
returns c = shape-put _ _ _ _ (rd-at _ c.number.type_inv ∙ c.number.ensures) (rd-at _ c.number-2.type_inv ∙ c.number-2.ensures) c.samples_at.ensures c.put_word-count.ensures c.put_word-stored.ensures c.put_stored-blank.ensures c.put_bytes.ensures
