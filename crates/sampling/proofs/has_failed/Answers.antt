-- `sampling::has_failed` meets its contract: each way to fail is an error. Assumes nothing.
use Rattle.std.proofs.Common.{is_err, ℕ, ◌≡◌, ◌∙◌, refl, Result, Ok, Err}
use Rattle.shape.specs.declared.Unexpanded.{Unexpanded}
use Rattle.shape.specs.declared.Unexpanded.TheVariants.{Field, Shape, Room}
use Rattle.sampling.specs.Sampling.{failed}
use Rattle.sampling.proofs.has_failed.Goals as goal

error-failed : (r : Result ℕ Unexpanded) → is_err r ≡ failed r
unfolding failed
error-failed (Ok n) = refl
error-failed (Err Field) = refl
error-failed (Err Shape) = refl
error-failed (Err Room) = refl

pub returns : goal.returns
returns c = c.is_err.ensures.value ∙ error-failed _
