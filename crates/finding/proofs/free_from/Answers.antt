use Rattle.std.proofs.Common.{◌≡◌, ◌+◌, ◌-◌, arith, ap, ◌∙◌}
use Rattle.finding.specs.Hints.{free_from}
use Rattle.finding.proofs.Noting.{free-end, free-here, free-out, free-further}
use Rattle.finding.proofs.free_from.Goals.{then-at-hints-via-then-at-hints, then-at-hints-via-else-at-hints+then-hints-at-eq0}
use Rattle.finding.proofs.free_from.Goals as goal

pub returns-then-at-hints : goal.returns-then-at-hints
returns-then-at-hints c =
    elim c.then-at-hints.branch [
      | then-at-hints-via-then-at-hints w ↦ free-out _ _ _ (omega arith) w.if-at-hints.true ∙ c.loop-tried.invariant
      | then-at-hints-via-else-at-hints+then-hints-at-eq0 w ↦ free-here _ _ _ (omega arith) w.if-hints-at-eq0.true ∙ c.loop-tried.invariant
    ]

pub loop-tried-preserved : goal.loop-tried-preserved
loop-tried-preserved c =
    let e : 64 - (c.loop-tried._tried + 1) ≡ 64 - c.loop-tried._tried - 1 = omega arith in
    ap (free_from _ _) e ∙ free-further _ _ _ (omega arith) c.if-hints-at-eq0.false ∙ c.loop-tried.invariant

pub returns : goal.returns
returns c = free-end _ _ _ (omega arith) ∙ c.loop-tried.invariant
