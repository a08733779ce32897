-- What expanding can answer: the paper's number of each answer, and how many samples it gives.
use Rattle.shape.specs.declared.Unexpanded.TheVariants.{Room, Field, Shape}
use Rattle.shape.specs.declared.Unexpanded.{Unexpanded}
use Rattle.std.specs.Prelude.{ℕ, Result, Ok, Err}

abbrev pub Expanded : Type 0
Expanded = Result ℕ Unexpanded

abbrev pub number_of : Expanded → ℕ
number_of (Ok n) = 0
number_of (Err Field) = 5
number_of (Err Shape) = 11
number_of (Err Room) = 7

abbrev pub used_of : Expanded → ℕ
used_of (Ok n) = n
used_of (Err Field) = 0
used_of (Err Shape) = 0
used_of (Err Room) = 0
