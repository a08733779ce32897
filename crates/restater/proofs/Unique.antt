-- The outcome of restating is unique. Assumes nothing.
use Rattle.restater.specs.Outcome.{Restated}
use mathlib.Core.List.{List}
use Prim.Native.Nat.{ℕ}
use mathlib.Core.Path.{◌≡◌, sym, ◌∙◌}
use lib.IntN.{ℤ}
use Rattle.shape.specs.declared.Edition.{Edition}
use Rattle.restater.specs.Restating.{Restating}

-- ---- two restatings of the same file with the same site to the same target, into tables and outputs of the same lengths, answer the same and leave the same
pub restate-unique : {target : Edition} {file site : List ℕ} {table l : List ℤ} {out : List ℕ} {r r' : Restated} {t t' m m' : List ℤ} {o o' : List ℕ}
    → Restating target file site table l out r t m o → Restating target file site table l out r' t' m' o' → (r ≡ r') × ((t ≡ t') × ((m ≡ m') × (o ≡ o')))
restate-unique a b = (a.answer ∙ sym b.answer, (a.rows ∙ sym b.rows, (a.samples ∙ sym b.samples, a.output ∙ sym b.output)))
