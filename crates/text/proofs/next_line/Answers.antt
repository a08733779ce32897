-- `text::next_line` meets its contract. Assumes nothing.
use Rattle.std.proofs.Common.{arith}
use Rattle.text.specs.Lines.{line_at}
use Rattle.text.proofs.Places.{at-end, line-none, sought-end, sought-turn, feed-first, feed-behind, feed-return}
use Rattle.text.proofs.next_line.Goals.{then-at-i+then-text-i-eq13, else-at-i, else-at-i-via-then-at-i+else-text-i-eq13, else-at-i-via-else-at-i}
use Rattle.text.proofs.next_line.Goals as goal

pub returns-then-text-i-eq10 : goal.returns-then-text-i-eq10
returns-then-text-i-eq10 c =
    let s = c.loop-i.invariant in
    elim c.if-at-i.branch [
      | then-at-i+then-text-i-eq13 w ↦ rw w.stop-is (feed-return s (omega arith) c.if-text-i-eq10.true w.if-at-i.true w.if-text-i-eq13.true)
      | else-at-i w ↦ rw w.stop-is (elim w.else-at-i.branch [
        | else-at-i-via-then-at-i+else-text-i-eq13 v ↦ feed-behind s (omega arith) c.if-text-i-eq10.true v.if-text-i-eq13.false
        | else-at-i-via-else-at-i v ↦ feed-first s (omega arith) c.if-text-i-eq10.true v.if-at-i.false
      ])
    ]

pub loop-i-preserved : goal.loop-i-preserved
loop-i-preserved c = sought-turn c.loop-i.invariant (omega arith) c.if-text-i-eq10.false

pub returns : goal.returns
returns c = at-end (line_at c.args.text.now) (λ k. record { stop = k; next = k }) (line-none c.args.text.now) (sought-end c.loop-i.invariant (omega arith)) (omega arith) c.loop-i.auto.i-end c.max-end.ensures
