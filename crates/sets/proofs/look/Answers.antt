-- `sets::look` meets its contract. Assumes nothing.
use Rattle.std.proofs.Common.{◌∙◌, sym}
use borrow.Author.Tests.{eqb-true, eqb-false}
use Rattle.sets.specs.Sets.{way_place}
use Rattle.sets.proofs.Ways.{look-held, look-free, look-on, look-end}
use Rattle.sets.proofs.Keeping.{way-zero, way-empty, way-some}
use Rattle.sets.proofs.look.Goals.{then-key-eq0-via-then-key-eq0, then-key-eq0-via-else-key-eq0+then-is_empty}
use Rattle.sets.proofs.look.Goals as goal

pub returns-then-key-eq0 : goal.returns-then-key-eq0
returns-then-key-eq0 c =
    elim c.then-key-eq0.branch [
      | then-key-eq0-via-then-key-eq0 w ↦ way-zero _ _ w.if-key-eq0.true
      | then-key-eq0-via-else-key-eq0+then-is_empty w ↦ way-empty _ _ w.if-key-eq0.false (eqb-true _ _ (sym w.if-is_empty.ensures))
    ]

pub returns-then-here-key : goal.returns-then-here-key
unfolding way_place
returns-then-here-key c = look-held c.loop-j.invariant c.loop-j-test.true c.if-here-key.true ∙ way-some _ _ c.if-key-eq0.false (eqb-false _ _ (sym c.if-is_empty.ensures))

pub returns-then-here-eq0 : goal.returns-then-here-eq0
unfolding way_place
returns-then-here-eq0 c = look-free c.loop-j.invariant c.loop-j-test.true c.if-here-key.false c.if-here-eq0.true ∙ way-some _ _ c.if-key-eq0.false (eqb-false _ _ (sym c.if-is_empty.ensures))

pub loop-j-preserved : goal.loop-j-preserved
unfolding way_place
loop-j-preserved c = look-on c.loop-j.invariant c.loop-j-test.true c.if-here-key.false c.if-here-eq0.false

pub returns : goal.returns
returns c = look-end c.loop-j.invariant c.loop-j-test.false ∙ way-some _ _ c.if-key-eq0.false (eqb-false _ _ (sym c.if-is_empty.ensures))
