-- `sections::has_section` meets its contract. Assumes nothing.
use mathlib.Core.Path.{◌∙◌, ◌≡◌}
use native.Mathlib.Omega.{arith}
use Rattle.sections.specs.Sections.{own_section}
use Rattle.sections.proofs.Sections.{section-early, section-both, section-own}
use Rattle.shape.specs.declared.Edition.{Edition}
use lib.Dec.{eqb}
use Prim.Native.Nat.{ℕ}
use Rattle.sections.proofs.has_section.Goals as goal

own_is : (k : ℕ) {e f : Edition} → e ≡ f → eqb k (own_section f) ≡ eqb k (own_section e)
own_is k p = rw p

pub returns-then-k-lt2 : goal.returns-then-k-lt2
returns-then-k-lt2 c = section-early _ _ c.if-k-lt2.true

pub returns-then-k-lt10 : goal.returns-then-k-lt10
returns-then-k-lt10 c = section-both _ _ (omega arith) c.if-k-lt10.true

pub returns-in-V13 : goal.returns-in-V13
returns-in-V13 c = own_is _ c.in-V13.is ∙ section-own _ _ (omega arith)

pub returns-in-V14 : goal.returns-in-V14
returns-in-V14 c = own_is _ c.in-V14.is ∙ section-own _ _ (omega arith)
