-- The answers of reading. "It answers a number, a line, rows used and samples used. Lines count from 1; 0 is none. On refusal both counts are 0".
use Rattle.std.specs.Prelude.{ℕ, Bool, true, false, Err, Ok}
use Rattle.answers.specs.declared.Refusal.{Refusal}
use Rattle.answers.specs.declared.Refusal.TheVariants.{Big, Line, Version, Section, Field, Missing, Room, Site, Duplicate, Raster, Shape, Reference, Loop, Use, Align, Long, Outlasts}
use Rattle.answers.specs.Outcome.{Answer}

-- ---- The table of refusals: the number of each name
abbrev pub refusal_number : Refusal → ℕ
refusal_number Big = 1
refusal_number Line = 2
refusal_number Version = 3
refusal_number Section = 4
refusal_number Field = 5
refusal_number Missing = 6
refusal_number Room = 7
refusal_number Site = 8
refusal_number Duplicate = 9
refusal_number Raster = 10
refusal_number Shape = 11
refusal_number Reference = 12
refusal_number Loop = 13
refusal_number Use = 14
refusal_number Align = 15
refusal_number Long = 16
refusal_number Outlasts = 17

-- ---- "0 ACCEPTED": number, line and counts of each answer
abbrev pub answer_number : Answer → ℕ
answer_number (Ok got) = 0
answer_number (Err why) = refusal_number why.refusal

abbrev pub answer_line : Answer → ℕ
answer_line (Ok got) = 0
answer_line (Err why) = why.line

abbrev pub rows_used : Answer → ℕ
rows_used (Ok got) = got.rows
rows_used (Err why) = 0

abbrev pub samples_used : Answer → ℕ
samples_used (Ok got) = got.samples
samples_used (Err why) = 0

abbrev pub is_accepted : Answer → Bool
is_accepted (Ok got) = true
is_accepted (Err why) = false
