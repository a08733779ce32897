-- The answers of restating. "Restating also gets an output slice and answers its length". "18 UNSAYABLE, 19 OUTPUT"; "1, 6, 7, 8, 10, 18 and 19 give line 0".
use Rattle.std.specs.Prelude.{ℕ, Bool, true, false, Err, Ok}
use Rattle.answers.specs.Answers.{refusal_number}
use Rattle.restater.specs.Outcome.{Restated}
use Rattle.restater.specs.declared.Unrestated.TheVariants.{Output, Unread, Unsayable}

-- ---- number, line, counts and length of each answer
abbrev pub restated_number : Restated → ℕ
restated_number (Ok got) = 0
restated_number (Err (Unread why)) = refusal_number why.refusal
restated_number (Err Unsayable) = 18
restated_number (Err Output) = 19

abbrev pub restated_line : Restated → ℕ
restated_line (Ok got) = 0
restated_line (Err (Unread why)) = why.line
restated_line (Err Unsayable) = 0
restated_line (Err Output) = 0

abbrev pub rows_read : Restated → ℕ
rows_read (Ok got) = got.rows
rows_read (Err (Unread why)) = 0
rows_read (Err Unsayable) = 0
rows_read (Err Output) = 0

abbrev pub samples_read : Restated → ℕ
samples_read (Ok got) = got.samples
samples_read (Err (Unread why)) = 0
samples_read (Err Unsayable) = 0
samples_read (Err Output) = 0

abbrev pub text_length : Restated → ℕ
text_length (Ok got) = got.length
text_length (Err (Unread why)) = 0
text_length (Err Unsayable) = 0
text_length (Err Output) = 0

abbrev pub is_text : Restated → Bool
is_text (Ok got) = true
is_text (Err (Unread why)) = false
is_text (Err Unsayable) = false
is_text (Err Output) = false
