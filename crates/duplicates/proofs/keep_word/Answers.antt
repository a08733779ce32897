-- `duplicates::keep_word` meets its contract. Assumes nothing.
use Rattle.sets.proofs.Passing.{unless-as}
use mathlib.Core.Path.{refl}
use Rattle.duplicates.proofs.keep_word.Goals as goal

pub returns-in-New : goal.returns-in-New
returns-in-New c = record { value = unless-as _ _ _ refl _ _ c.keep.ensures.value c.in-New.is _ _ refl; set_after = c.keep.ensures.set_after }

pub returns-in-Old : goal.returns-in-Old
returns-in-Old c = record { value = unless-as _ _ _ refl _ _ c.keep.ensures.value c.in-Old.is _ _ c.stood_before.ensures; set_after = c.keep.ensures.set_after }

pub returns-in-Full : goal.returns-in-Full
returns-in-Full c = record { value = unless-as _ _ _ refl _ _ c.keep.ensures.value c.in-Full.is _ _ c.stood_before-in-Full.ensures; set_after = c.keep.ensures.set_after }
