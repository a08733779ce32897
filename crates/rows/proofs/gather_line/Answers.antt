use mathlib.Core.Path.{sym, ◌∙◌}
use native.Mathlib.Omega.{arith}
use Rattle.rows.proofs.Numbers.{walk_start, walk-small, walk-feed, walk-blank, walk_turn}
use Rattle.rows.proofs.gather_line.Goals as goal

pub loop-i-init : goal.loop-i-init
loop-i-init c = walk_start _ _

pub bounds-text-i : goal.bounds-text-i
bounds-text-i c = omega arith

pub returns-then-b-eq10 : goal.returns-then-b-eq10
returns-then-b-eq10 c = walk-feed c.loop-i.invariant (omega arith) c.if-b-eq10.true

pub returns-then-is_blank : goal.returns-then-is_blank
returns-then-is_blank c = walk-blank c.loop-i.invariant (omega arith) (sym c.is_blank.ensures ∙ c.if-is_blank.true)

pub returns-then-b-lt48 : goal.returns-then-b-lt48
returns-then-b-lt48 c = tt

pub returns-then-b-gt57 : goal.returns-then-b-gt57
returns-then-b-gt57 c = tt

pub overflow_sub-i : goal.overflow_sub-i
overflow_sub-i c = c.loop-i.invariant.along.later

pub returns-then-i-start-gt9 : goal.returns-then-i-start-gt9
returns-then-i-start-gt9 c = tt

pub overflow_mul-v : goal.overflow_mul-v
overflow_mul-v c = omega (arith, walk-small c.loop-i.invariant (omega arith))

pub overflow_cast-v : goal.overflow_cast-v
overflow_cast-v c = omega arith

pub overflow_add-v : goal.overflow_add-v
overflow_add-v c = omega (arith, walk-small c.loop-i.invariant (omega arith))

pub loop-i-preserved : goal.loop-i-preserved
loop-i-preserved c = walk_turn c.loop-i.invariant (omega arith) (omega arith) (omega arith) (omega arith)

pub returns : goal.returns
returns c = tt
