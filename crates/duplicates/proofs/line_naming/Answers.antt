use mathlib.Core.Path.{refl, sym, ◌∙◌}
use native.Mathlib.Omega.{arith}
use Rattle.duplicates.specs.Words.{word_at, words_of, next_line}
use Rattle.file.proofs.Stepping.{from-front, cut-there, gave-there, nearer, carried}
use Rattle.duplicates.proofs.Seeking.{SeekWalk, seek-fault, seek_hit, seek-turn, seek-end}
use Rattle.duplicates.proofs.Naming.{naming-hit, naming-miss, no-next}
use Rattle.duplicates.proofs.Beyond.{nothing-beyond}
use Rattle.duplicates.proofs.line_naming.Goals as goal

pub loop-sort-init : goal.loop-sort-init
unfolding words_of
loop-sort-init c =
    let a = c.args in
    from-front (SeekWalk word_at (next_line a.sort a.word.now) a.file.now (next_line a.sort a.word.now (words_of a.file.now))) _ c.walk_start-walk.ensures
    (record { number = omega arith; same = refl })

pub step-requires : goal.step-requires
step-requires c = omega (arith, c.loop-sort.invariant.number)

pub returns-in_default : goal.returns-in_default
returns-in_default c = seek-end c.loop-sort.invariant (no-next _ _) c.in_default.ensures.0

pub returns-then-is_fault : goal.returns-then-is_fault
returns-then-is_fault c =
    let s = c.in-Some.ensures in
    seek-fault c.loop-sort.invariant _ (cut-there s) _ (gave-there s) (no-next _ _) (sym c.is_fault.ensures ∙ c.if-is_fault.true)

pub returns-then-names : goal.returns-then-names
returns-then-names c =
    let s = c.in-Some.ensures in
    rw s.behind
    (seek_hit c.loop-sort.invariant _ (cut-there s) _ (gave-there s) (sym c.is_fault.ensures ∙ c.if-is_fault.false) _
    (λ rest. naming-hit _ _ _ _ _ _ (rw s.cut at c.names.ensures) rest c.if-names.true))

pub loop-sort-smaller : goal.loop-sort-smaller
loop-sort-smaller c = nearer c.in-Some.ensures

pub loop-sort-preserved : goal.loop-sort-preserved
loop-sort-preserved c =
    let s = c.in-Some.ensures in
    let a = c.args in
    carried s (SeekWalk word_at (next_line a.sort a.word.now) a.file.now (next_line a.sort a.word.now (words_of a.file.now)))
    (seek-turn c.loop-sort.invariant _ (cut-there s) _ (gave-there s) (sym c.is_fault.ensures ∙ c.if-is_fault.false)
    (λ rest. naming-miss _ _ _ _ _ _ (rw s.cut at c.names.ensures) rest c.if-names.false))

pub returns : goal.returns
returns c = nothing-beyond _ _ _ _ _ (sym c.is_left.ensures ∙ c.loop-sort-test.false) ∙ c.loop-sort.invariant.same
