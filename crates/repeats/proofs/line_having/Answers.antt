use Prim.Native.Nat.{ℕ}
use mathlib.Core.Path.{◌≡◌, refl, sym, ◌∙◌}
use mathlib.Core.List.{List}
use native.Mathlib.Omega.{arith}
use Rattle.signed.proofs.Machine.{rd-is, rd}
use Rattle.file.specs.Rows.{Placed, row_at, rows_of}
use Rattle.file.proofs.Stepping.{from-front, cut-there, gave-there, nearer, carried}
use Rattle.duplicates.proofs.Seeking.{SeekWalk, seek-fault, seek_hit, seek-turn, seek-end}
use Rattle.repeats.specs.Repeats.{next_row}
use Rattle.repeats.proofs.Having.{having-hit, having-miss, no-next}
use Rattle.repeats.proofs.line_having.Goals.{Start}
use Rattle.repeats.proofs.line_having.Goals as goal

-- a class and an ID, as they were handed in
handed : (c : Start) (rs : List Placed) (k : ℕ) → k ≡ next_row (rd c.args.class) (rd c.args.id) rs → k ≡ next_row c.args.class c.args.id rs
handed c rs k e = rw (rd-is c.ranges.class, rd-is c.ranges.id) at e

pub loop-did-init : goal.loop-did-init
unfolding rows_of
loop-did-init c =
    let a = c.args in
    from-front (SeekWalk row_at (next_row (rd a.class) (rd a.id)) a.file.now (next_row (rd a.class) (rd a.id) (rows_of a.file.now))) _ c.walk_start-walk.ensures
    (record { number = omega arith; same = refl })

pub step-requires : goal.step-requires
step-requires c = omega (arith, c.loop-did.invariant.number)

pub returns-then-is_fault : goal.returns-then-is_fault
returns-then-is_fault c =
    let s = c.in-Some.ensures in
    handed (goal.at.returns-then-is_fault c).Start _ _ (seek-fault c.loop-did.invariant _ (cut-there s) _ (gave-there s) (no-next _ _) (sym c.is_fault.ensures ∙ c.if-is_fault.true))

pub returns-then-gives_row : goal.returns-then-gives_row
returns-then-gives_row c =
    let s = c.in-Some.ensures in
    handed (goal.at.returns-then-gives_row c).Start _ _
    (seek_hit c.loop-did.invariant _ (cut-there s) _ (gave-there s) (sym c.is_fault.ensures ∙ c.if-is_fault.false) _ (λ rest. having-hit _ _ _ _ _ _ c.gives_row.ensures rest c.if-gives_row.true))

pub loop-did-smaller : goal.loop-did-smaller
loop-did-smaller c = nearer c.in-Some.ensures

pub loop-did-preserved : goal.loop-did-preserved
loop-did-preserved c =
    let s = c.in-Some.ensures in
    let a = c.args in
    carried s (SeekWalk row_at (next_row (rd a.class) (rd a.id)) a.file.now (next_row (rd a.class) (rd a.id) (rows_of a.file.now)))
    (seek-turn c.loop-did.invariant _ (cut-there s) _ (gave-there s) (sym c.is_fault.ensures ∙ c.if-is_fault.false) (λ rest. having-miss _ _ _ _ _ _ c.gives_row.ensures rest c.if-gives_row.false))

pub returns : goal.returns
returns c = handed (goal.at.returns c).Start _ _ (seek-end c.loop-did.invariant (no-next _ _) c.in_default.ensures.0)
