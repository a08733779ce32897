-- `references::duration_ref` meets its contract. Assumes nothing.
use mathlib.Core.Path.{sym, ap}
use lib.IntN.{pos}
use Rattle.shape.specs.declared.Edition.{Edition}
use Rattle.references.specs.References.{duration_ref}
use Rattle.references.proofs.duration_ref.Goals as goal

pub returns-in-V13 : goal.returns-in-V13
returns-in-V13 c = sym (ap (λ (e : Edition). pos (duration_ref e)) c.in-V13.is)

pub returns-in-V14 : goal.returns-in-V14
returns-in-V14 c = sym (ap (λ (e : Edition). pos (duration_ref e)) c.in-V14.is)
