use mathlib.Core.Path.{sym, ◌∙◌}
use native.Mathlib.Omega.{arith}
use Rattle.rows.proofs.Digits.{begin, small, end, at-blank, below, above, long, turn}
use Rattle.rows.proofs.gather.Goals as goal

pub loop-i-init : goal.loop-i-init
loop-i-init c = begin _ _

pub bounds-line-i : goal.bounds-line-i
bounds-line-i c = omega arith

pub returns-then-is_blank : goal.returns-then-is_blank
returns-then-is_blank c =
    let l = c.loop-i in
    at-blank _ _ _ _ l.invariant (omega arith) (sym c.is_blank.ensures ∙ c.if-is_blank.true)

pub returns-then-b-lt48 : goal.returns-then-b-lt48
returns-then-b-lt48 c =
    let l = c.loop-i in
    below _ _ _ _ l.invariant (omega arith) (sym c.is_blank.ensures ∙ c.if-is_blank.false) (omega arith)

pub returns-then-b-gt57 : goal.returns-then-b-gt57
returns-then-b-gt57 c = above _ _ _ _ c.loop-i.invariant (omega arith) (omega arith)

pub overflow_sub-i : goal.overflow_sub-i
overflow_sub-i c = c.loop-i.invariant.later

pub returns-then-i-start-gt9 : goal.returns-then-i-start-gt9
returns-then-i-start-gt9 c = long _ _ _ _ c.loop-i.invariant (omega arith) (omega arith) (omega arith)

pub overflow_mul-v : goal.overflow_mul-v
overflow_mul-v c = omega (arith, small _ _ _ _ c.loop-i.invariant (omega arith))

pub overflow_cast-v : goal.overflow_cast-v
overflow_cast-v c = omega arith

pub overflow_add-v : goal.overflow_add-v
overflow_add-v c = omega (arith, small _ _ _ _ c.loop-i.invariant (omega arith))

pub overflow_add-i : goal.overflow_add-i
overflow_add-i c = omega arith

pub loop-i-smaller : goal.loop-i-smaller
loop-i-smaller c = omega arith

pub loop-i-preserved : goal.loop-i-preserved
loop-i-preserved c = turn _ _ _ _ c.loop-i.invariant (omega arith) (omega arith) (omega arith) (omega arith)

pub returns : goal.returns
returns c = end _ _ _ _ c.loop-i.invariant (omega arith)
