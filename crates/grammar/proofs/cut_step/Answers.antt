-- `grammar::cut_step` meets its contract: the line cut off, and its step. Assumes nothing.
use Rattle.text.proofs.Clean.{cut-clean}
use Rattle.rows.proofs.CutRows.{cut_later}
use Rattle.grammar.proofs.ReadLines.{read-cut, read_past}
use Rattle.grammar.proofs.cut_step.Goals as goal

pub returns-then-text-stop : goal.returns-then-text-stop
returns-then-text-stop c = read_past _ _ _ _ _ c.cut_line-line.ensures c.if-text-stop.true _ c.step-did.ensures

pub slice_bounds-step_cut-count : goal.slice_bounds-step_cut-count
slice_bounds-step_cut-count c = cut_later _ _ _ c.cut_line-line.ensures

pub slice_bounds-step_cut-start : goal.slice_bounds-step_cut-start
slice_bounds-step_cut-start c = cut_later _ _ _ c.cut_line-line.ensures

pub step_cut-did-requires : goal.step_cut-did-requires
step_cut-did-requires c = cut-clean _ _ _ c.cut_line-line.ensures

pub returns : goal.returns
returns c = read-cut _ _ _ _ _ c.cut_line-line.ensures _ c.step_cut-did.ensures
