-- What the inner functions answer. Nothing here needs to be believed: laws lead from these to the definitions of the other files.
use Rattle.restater.specs.Outcome.{Restated}
use Rattle.answers.specs.Outcome.{Answer}
use Rattle.std.specs.Prelude.{ℕ, true, List, ◌≡◌, ℤ, length, take}
use Rattle.shape.specs.declared.Edition.{Edition}
use Rattle.restater.specs.Answers.{rows_read, text_length, is_text}
use Rattle.restater.specs.Restating.{text_of, said, restated_from}

-- an answer, and what stands in front of the lent output if it is a text
pub record Judged (a : Restated) (text out : List ℕ) (r : Restated) (out' : List ℕ) : Type 0 where
  pub answer : r ≡ a
  pub size : is_text r ≡ true → text_length r ≡ length text
  pub front : is_text r ≡ true → take (text_length r) out' ≡ text
  pub long : length out' ≡ length out

-- from UNSAYABLE on
abbrev pub SaidJudged : Edition → List ℕ → List ℕ → List ℤ → ℕ → List ℤ → ℕ → List ℕ → Restated → List ℕ → Type 0
SaidJudged target file site rows n samples s out r out' = Judged (said target file site rows n samples s (length out)) (text_of target file site rows n samples) out r out'

-- and with what was asked before
abbrev pub AnswerJudged : Answer → Edition → List ℕ → List ℕ → List ℤ → List ℤ → List ℕ → Restated → List ℕ → Type 0
AnswerJudged asked target file site rows samples out r out' =
    Judged (restated_from asked target file site rows samples (length out)) (text_of target file site rows (rows_read r) samples) out r out'
