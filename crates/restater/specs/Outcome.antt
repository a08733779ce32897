-- What restating answers: how many rows and samples were read and how long the text is; or a refusal, of reading, UNSAYABLE or OUTPUT.
use Rattle.std.specs.Prelude.{ℕ, Result, Ok, Err}
use Rattle.answers.specs.declared.Refusal.{Refusal}
use Rattle.restater.specs.declared.Text.{Text as Lengths}
use Rattle.restater.specs.declared.Unrestated.{Unrestated}
use Rattle.restater.specs.declared.Unrestated.TheVariants.{Unread}

abbrev pub Restated : Type 0
Restated = Result Lengths Unrestated

abbrev pub Text : ℕ → ℕ → ℕ → Restated
Text rows samples length = Ok (record { rows = rows; samples = samples; length = length })

abbrev pub Refused : Refusal → ℕ → Restated
Refused refusal line = Err (Unread (record { refusal = refusal; line = line }))
