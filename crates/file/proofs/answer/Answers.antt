-- `file::answer` meets its contract. Assumes nothing.
use mathlib.Core.Logic.{◌⊎◌, inl, inr}
use mathlib.Core.Path.{◌∙◌, ◌≡◌}
use Rattle.file.specs.Rows.{answer_of}
use Rattle.file.specs.Whole.{judged, Verdict}
use Prim.Native.Nat.{ℕ}
use Rattle.places.specs.declared.Found.{Found}
use Rattle.places.specs.declared.Found.TheVariants.{Nothing, Row, Definition}
use Rattle.file.proofs.answer.Goals as goal

-- what was found, as the match tells it
told : {found f : Found} (n : ℕ) (v : Verdict) (rows : ℕ) → found ≡ f → answer_of (judged f n v) rows ≡ answer_of (judged found n v) rows
told n v rows e = rw e

-- no fault
passed : {found : Found} (n : ℕ) (v : Verdict) (rows : ℕ) → (found ≡ Nothing) ⊎ ((found ≡ Row) ⊎ (found ≡ Definition)) → answer_of v rows ≡ answer_of (judged found n v) rows
unfolding judged
passed n v rows (inl e) = told n v rows e
passed n v rows (inr (inl e)) = told n v rows e
passed n v rows (inr (inr e)) = told n v rows e

pub returns-in-Nothing : goal.returns-in-Nothing
unfolding judged answer_of
returns-in-Nothing c = c.whole.ensures ∙ passed _ _ _ c.in-Nothing.is

pub returns-in-Fault : goal.returns-in-Fault
unfolding judged answer_of
returns-in-Fault c = told _ _ _ c.in-Fault.is
