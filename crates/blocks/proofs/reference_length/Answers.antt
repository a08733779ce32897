-- `blocks::reference_length` meets its contract. Assumes nothing.
use Rattle.std.proofs.Common.{◌≡◌, pos, true, refl, arith, ◌∙◌}
use Rattle.signed.proofs.Machine.{rd-is}
use Rattle.signed.specs.Signed.{same_z}
use Rattle.blocks.proofs.Lasting.{reference-no-class, reference-found, reference-nothing}
use Rattle.blocks.proofs.reference_length.Goals as goal

pub returns-then-class-eq0 : goal.returns-then-class-eq0
unfolding same_z
returns-then-class-eq0 c = let none : same_z c.args.class (pos 0) ≡ true = grind arith in reference-no-class _ _ _ _ _ refl none

pub returns-then-k-timing : goal.returns-then-k-timing
returns-then-k-timing c = c.found_length.ensures ∙ reference-found _ _ _ _ (rd-is c.ranges.class) (rd-is c.ranges.id) _ c.met_row-k.ensures c.if-k-timing.true

pub returns : goal.returns
returns c = reference-nothing _ _ _ _ (rd-is c.ranges.class) (rd-is c.ranges.id) _ c.met_row-k.ensures c.if-k-timing.false
