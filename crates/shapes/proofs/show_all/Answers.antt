use mathlib.Core.Path.{◌≡◌, ap}
use Prim.Native.Nat.{ℕ, ◌≤◌}
use mathlib.Core.List.{List}
use native.Mathlib.Omega.{arith}
use Rattle.text.specs.Lines.{line_at}
use Rattle.text.specs.declared.Line.{Line}
use Rattle.text.proofs.Cut.{line-at}
use Rattle.shapes.proofs.show_all.Goals.{After-next_line-head}
use Rattle.shapes.proofs.show_all.Goals as goal

-- from any place, also at the end of the text, the next line does not start further back
not_back : (text : List ℕ) (at : ℕ) (r : Line) → r ≡ line_at text at → at ≤ r.next
unfolding line_at
not_back text at r p = let e = ap (λ (x : Line). x.next) p in omega arith

pub loop-at-init : goal.loop-at-init
loop-at-init c = tt

pub stored_end-end-requires : goal.stored_end-end-requires
stored_end-end-requires c = (line-at _ _ _ c.next_line-head.ensures c.loop-at-test.true).inside

pub slice_bounds-show-count : goal.slice_bounds-show-count
slice_bounds-show-count c = (line-at _ _ _ c.next_line-head.ensures c.loop-at-test.true).ordered

pub slice_bounds-show-start : goal.slice_bounds-show-start
slice_bounds-show-start c = (line-at _ _ _ c.next_line-head.ensures c.loop-at-test.true).ordered

pub slice_bounds-show-end : goal.slice_bounds-show-end
slice_bounds-show-end c = (line-at _ _ _ c.next_line-head.ensures c.loop-at-test.true).within

pub slice_bounds-show-count-in-loop-at : goal.slice_bounds-show-count-in-loop-at
slice_bounds-show-count-in-loop-at c = c.stored_end-end.ensures.0

pub loop-at-smaller : goal.loop-at-smaller
loop-at-smaller c = let l = (line-at _ _ _ c.next_line-head.ensures c.loop-at-test.true) in
    omega (arith, c.stored_end-end.ensures.0, not_back _ _ _ c.next_line-at.ensures)

pub loop-at-preserved : goal.loop-at-preserved
loop-at-preserved c = tt
