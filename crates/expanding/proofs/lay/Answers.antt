-- `expanding::lay` meets its contract: one form or the other. Assumes nothing.
use mathlib.Core.Path.{◌∙◌, ap}
use Rattle.expanding.specs.Inside.{judged, soundly}
use Rattle.expanding.proofs.Answers.{trace-plain, trace-runs}
use Rattle.expanding.proofs.lay.Goals as goal

pub returns-then-plain : goal.returns-then-plain
returns-then-plain c = c.lay_plain.ensures ∙ ap (soundly _) (ap (judged _ _ 0) (trace-plain _ _ c.if-plain.true))

pub returns : goal.returns
returns c = c.lay_runs.ensures ∙ ap (soundly _) (ap (judged _ _ 0) (trace-runs _ _ c.if-plain.false))
