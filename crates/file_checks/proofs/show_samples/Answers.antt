use native.Mathlib.Omega.{arith}
use Rattle.file_checks.proofs.show_samples.Goals as goal

pub loop-at-init : goal.loop-at-init
loop-at-init c = tt

pub stop_of-stop-requires : goal.stop_of-stop-requires
stop_of-stop-requires c = omega arith

pub slice_bounds-show_part-count : goal.slice_bounds-show_part-count
slice_bounds-show_part-count c = c.stop_of-stop.ensures.0

pub slice_bounds-show_part-start : goal.slice_bounds-show_part-start
slice_bounds-show_part-start c = c.stop_of-stop.ensures.0

pub slice_bounds-show_part-end : goal.slice_bounds-show_part-end
slice_bounds-show_part-end c = c.stop_of-stop.ensures.1

pub loop-at-smaller : goal.loop-at-smaller
loop-at-smaller c = omega (arith, c.stop_of-stop.ensures.2)

pub loop-at-preserved : goal.loop-at-preserved
loop-at-preserved c = tt
