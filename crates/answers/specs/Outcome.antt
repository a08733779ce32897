-- What reading answers: how many rows and samples an accepted file has, or why it is refused and at which line, where 0 is none.
use Rattle.std.specs.Prelude.{ℕ, Result, Ok, Err}
use Rattle.answers.specs.declared.Refusal.{Refusal}
use Rattle.answers.specs.declared.Counts.{Counts}
use Rattle.answers.specs.declared.RefusedAt.{RefusedAt}

abbrev pub Answer : Type 0
Answer = Result Counts RefusedAt

abbrev pub Accepted : ℕ → ℕ → Answer
Accepted rows samples = Ok (record { rows = rows; samples = samples })

abbrev pub Refused : Refusal → ℕ → Answer
Refused refusal line = Err (record { refusal = refusal; line = line })
