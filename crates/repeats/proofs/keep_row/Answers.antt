-- `repeats::keep_row` meets its contract. Assumes nothing.
use Rattle.repeats.proofs.RowParts.{stood-as}
use Rattle.sets.proofs.Passing.{unless-as}
use Rattle.signed.proofs.Machine.{rd-is}
use mathlib.Core.Path.{refl, ◌∙◌}
use Rattle.repeats.proofs.keep_row.Goals as goal

pub returns-in-New : goal.returns-in-New
returns-in-New c = record { value = unless-as _ _ _ refl _ _ c.keep.ensures.value c.in-New.is _ _ refl; set_after = c.keep.ensures.set_after }

pub returns-in-Old : goal.returns-in-Old
returns-in-Old c = record { value = unless-as _ _ _ refl _ _ c.keep.ensures.value c.in-Old.is _ _ (c.stood_before.ensures ∙ stood-as _ (rd-is c.ranges.class) (rd-is c.ranges.id) _); set_after = c.keep.ensures.set_after }

pub returns-in-Full : goal.returns-in-Full
returns-in-Full c = record { value = unless-as _ _ _ refl _ _ c.keep.ensures.value c.in-Full.is _ _ (c.stood_before-in-Full.ensures ∙ stood-as _ (rd-is c.ranges.class) (rd-is c.ranges.id) _); set_after = c.keep.ensures.set_after }
