-- `lookups::has_fault` meets its contract: a fault is an error. Assumes nothing.
use Rattle.std.proofs.Common.{is_err, ◌≡◌, ◌∙◌, refl, ap, Ok, Err}
use Rattle.file.specs.Outcome.{Scanned}
use Rattle.lookups.specs.Looking.{is_at_fault}
use Rattle.lookups.proofs.has_fault.Goals as goal

error_fault : (s : Scanned) → is_err s ≡ is_at_fault s
unfolding is_at_fault
error_fault (Ok got) = refl
error_fault (Err why) = refl

pub returns : goal.returns
returns c = c.is_err.ensures.value ∙ error_fault _ ∙ ap is_at_fault c.scan.ensures.answer
