-- `pulseq::edition_of` meets its contract. Each return is one case of `edition_of`. Assumes nothing.
use native.Mathlib.Omega.{arith}
use Rattle.pulseq.proofs.Telling.{named-13, named-14, named_none}
use Rattle.pulseq.proofs.edition_of.Goals as goal

pub returns-in-103 : goal.returns-in-103
returns-in-103 c = named-13 _ c.in-103.is

pub returns-in-104 : goal.returns-in-104
returns-in-104 c = named-14 _ (λ e. absurd (omega arith)) c.in-104.is

pub returns-in_default : goal.returns-in_default
returns-in_default c = named_none _ (λ e. absurd (omega arith)) (λ e. absurd (omega arith))
