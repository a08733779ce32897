-- `file_checks::show_accepted` is safe: the samples shown lie among those there are. Assumes nothing.
use mathlib.Core.Path.{sym}
use lib.Seq.{length-take-le}
use Rattle.file_checks.proofs.show_accepted.Goals as goal

pub slice_bounds-show_samples-end : goal.slice_bounds-show_samples-end
slice_bounds-show_samples-end c = sym (length-take-le _ _ c.stop_of-stop.ensures.1)
