-- `finding::lay_hint` meets its contract. `set` past the end changes nothing. Assumes nothing.
use Rattle.finding.proofs.Noting.{laid-free, laid-full, laid_out}
use Rattle.finding.proofs.lay_hint.Goals.{else-at-hints-via-then-at-hints+else-hints-at-eq0, else-at-hints-via-else-at-hints}
use Rattle.finding.proofs.lay_hint.Goals as goal

pub returns-then-hints-at-eq0 : goal.returns-then-hints-at-eq0
returns-then-hints-at-eq0 c = laid-free _ _ _ c.if-hints-at-eq0.true

pub returns-else-at-hints : goal.returns-else-at-hints
returns-else-at-hints c =
    elim c.else-at-hints.branch [
      | else-at-hints-via-then-at-hints+else-hints-at-eq0 w ↦ laid-full _ _ _ w.if-hints-at-eq0.false
      | else-at-hints-via-else-at-hints w ↦ laid_out _ _ _ w.if-at-hints.false
    ]
