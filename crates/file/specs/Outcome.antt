-- What reading all lines answers: the edition, how many rows and samples there are, and whether `[DEFINITIONS]` stands in the file; or the
-- first fault and its line.
use Rattle.std.specs.Prelude.{ℕ, Bool, Result, Ok, Err}
use Rattle.shape.specs.declared.Edition.{Edition}
use Rattle.places.specs.declared.Fault.{Fault as LineFault}
use Rattle.file.specs.declared.Summary.{Summary}
use Rattle.file.specs.declared.FaultAt.{FaultAt}

abbrev pub Scanned : Type 0
Scanned = Result Summary FaultAt

abbrev pub File : Edition → ℕ → ℕ → Bool → Scanned
File edition rows samples defined = Ok (record { edition = edition; rows = rows; samples = samples; defined = defined })

abbrev pub Fault : LineFault → ℕ → Scanned
Fault fault line = Err (record { fault = fault; line = line })
