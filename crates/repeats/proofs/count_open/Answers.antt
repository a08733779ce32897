use native.Mathlib.Omega.{arith}
use Rattle.file.proofs.Walking.{Within, within-start, within-turn}
use Rattle.file.proofs.Stepping.{from-front, cut-there, nearer, carried}
use Prim.Native.Nat.{ℕ}
use Rattle.places.specs.declared.State.{State}
use Rattle.repeats.proofs.count_open.Goals as goal

pub loop-did-init : goal.loop-did-init
loop-did-init c = (from-front (λ (st : State) (at n : ℕ). Within c.args.file.now at n) _ c.walk_start-walk.ensures (within-start _), omega arith)

pub step-requires : goal.step-requires
step-requires c = omega (arith, c.loop-did.invariant.0.number)

pub overflow_add-count : goal.overflow_add-count
overflow_add-count c =
    let i = c.loop-did.invariant in
    let s = c.in-Some.ensures in
    omega (arith, i.0.number, i.1, (cut-there s).further, (cut-there s).inside, c.open_count-count.ensures)

pub loop-did-smaller : goal.loop-did-smaller
loop-did-smaller c = nearer c.in-Some.ensures

pub loop-did-preserved : goal.loop-did-preserved
loop-did-preserved c =
    let i = c.loop-did.invariant in
    let s = c.in-Some.ensures in (
      carried s (λ (st : State) (at n : ℕ). Within c.args.file.now at n) (within-turn i.0 (cut-there s)),
      rw s.behind (omega (arith, i.1, c.open_count-count.ensures)),
    )
