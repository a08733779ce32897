-- `durations::list_uses` meets its contract. Assumes nothing.
use Rattle.durations.proofs.Filling.{fill_start, fill-length, fill-turn, fill-full, fill_end}
use Rattle.durations.proofs.list_uses.Goals as goal

pub loop-k-init : goal.loop-k-init
loop-k-init c = fill_start _ _ _

pub shape_of-list-then-list-count : goal.shape_of-list-then-list-count
shape_of-list-then-list-count c = fill-length _ _ _ _ _ _ c.loop-k.invariant

pub returns-then-list-count : goal.returns-then-list-count
returns-then-list-count c = fill-full _ _ _ _ _ _ c.loop-k.invariant c.if-list-count.true

pub loop-k-preserved : goal.loop-k-preserved
loop-k-preserved c = fill-turn _ _ _ _ _ _ c.loop-k.invariant c.loop-k-test.true c.if-list-count.false _ _ c.note-count.ensures.value c.note-count.ensures.list_after

pub shape_of-list : goal.shape_of-list
shape_of-list c = fill-length _ _ _ _ _ _ c.loop-k.invariant

pub returns : goal.returns
returns c = fill_end _ _ _ _ _ _ c.loop-k.invariant c.loop-k-test.false
