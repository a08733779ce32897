-- `duplicates::once_of` meets its contract. Assumes nothing.
use mathlib.Core.Path.{ap, ◌∙◌}
use Rattle.signed.proofs.Machine.{rd-at}
use Rattle.duplicates.specs.Words.{row_names, found_names}
use Rattle.duplicates.specs.Words.{found_names}
use Rattle.duplicates.proofs.Naming.{once-found}
use Rattle.duplicates.proofs.once_of.Goals as goal

pub returns-in-Nothing : goal.returns-in-Nothing
unfolding found_names
returns-in-Nothing c = once-found _ _ c.in-Nothing.is

pub returns-in-Row : goal.returns-in-Row
unfolding found_names
returns-in-Row c = c.row_names.ensures ∙ ap row_names (rd-at _ c.kind-1.given) ∙ once-found _ _ c.in-Row.is

pub returns-in-Definition : goal.returns-in-Definition
unfolding found_names
returns-in-Definition c = once-found _ _ c.in-Definition.is

pub returns-in-Fault : goal.returns-in-Fault
unfolding found_names
returns-in-Fault c = once-found _ _ c.in-Fault.is
