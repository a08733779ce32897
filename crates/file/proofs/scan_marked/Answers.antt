use mathlib.Core.Bool.{true, false}
use mathlib.Core.Logic.{inl, inr}
use mathlib.Core.List.{[]}
use mathlib.Core.Path.{◌≡◌, refl, sym, ap, ◌∙◌}
use native.Mathlib.Omega.{arith}
use Prim.Native.Nat.{ℕ, ◌+◌}
use Rattle.places.specs.declared.Found.{Found}
use Rattle.places.specs.declared.Found.TheVariants.{Nothing, Row, Definition, Fault as FoundFault}
use Rattle.places.specs.declared.Fault.{Fault as LineFault}
use Rattle.places.specs.declared.State.{State}
use Rattle.file.specs.Whole.{is_fault, judged, ended}
use Rattle.file.specs.Rows.{answer_of}
use Rattle.file.specs.Outcome.{Fault}
use Rattle.file.proofs.Stepping.{from-front, cut-there, whole-there, gave-there, nearer, carried}
use Rattle.file.proofs.Reading.{scan-start, scan-fault, scan-turn, scan-end}
use Rattle.file.proofs.Laying.{count-is, count_most}
use Rattle.file.proofs.Marking.{MarkedWalk, mark-start, mark-fault, mark-turn, mark-end}
use Rattle.file.proofs.scan_marked.Goals.{then-is_met, else-is_met}
use Rattle.file.proofs.scan_marked.Goals as goal

-- a fault, and none
faulty : (found : Found) (f : LineFault) → found ≡ FoundFault f → is_fault found ≡ true
unfolding is_fault
faulty found f e = rw e

fine : (found : Found) → ((f : LineFault) → found ≡ FoundFault f → ⊥) → is_fault found ≡ false
unfolding is_fault
fine Nothing n = refl
fine Row n = refl
fine Definition n = refl
fine (FoundFault f) n = absurd (n f refl)

-- the answer at a fault
at-fault : (found : Found) (f : LineFault) (n : ℕ) (st : State) (used : ℕ) → found ≡ FoundFault f → Fault f n ≡ answer_of (judged found n (ended st)) used
unfolding judged answer_of
at-fault found f n st used e = rw e

pub loop-did-init : goal.loop-did-init
loop-did-init c =
    let a = c.args in
    from-front (λ (st : State) (at n : ℕ). MarkedWalk a.file.now a.rows.now a.rows.now c.walk_start-names.result c.walk_start-shapes.result st at n 0) _ c.walk_start-walk.ensures
    (record { scan = scan-start _ _ _ refl; names-met = mark-start _ _ _ c.walk_start-names.ensures _ refl; shapes-met = mark-start _ _ _ c.walk_start-shapes.ensures _ refl })

pub read-requires : goal.read-requires
read-requires c = omega (arith, c.loop-did.invariant.scan.within.number)

pub shape_of-rows-in-Fault : goal.shape_of-rows-in-Fault
shape_of-rows-in-Fault c = c.loop-did.invariant.scan.long

pub returns-in-Fault : goal.returns-in-Fault
returns-in-Fault c =
    let s = c.in-Some.ensures in
    let w = c.loop-did.invariant in
    let f = faulty _ _ c.in-Fault.is in
    record {
      scanning = scan-fault _ _ _ _ _ _ _ w.scan _ (cut-there s) _ (gave-there s) f _ (rw s.behind (at-fault _ _ _ _ _ c.in-Fault.is));
      names = mark-fault w.names-met (cut-there s) (whole-there s) _ (gave-there s) f;
      shapes = mark-fault w.shapes-met (cut-there s) (whole-there s) _ (gave-there s) f;
    }

pub overflow_add-used : goal.overflow_add-used
overflow_add-used c =
    let here = cut-there c.in-Some.ensures in
    let m = c.lay_found-used.ensures.count ∙ count-is 0 [] _ in
    omega (arith, c.loop-did.invariant.scan.few, here.further, here.inside, c.well_formed.0.0, m, count_most c.in-Some.did.found)

pub loop-did-smaller : goal.loop-did-smaller
loop-did-smaller c = nearer c.in-Some.ensures

pub loop-did-preserved : goal.loop-did-preserved
loop-did-preserved c =
    let s = c.in-Some.ensures in
    let w = c.loop-did.invariant in
    let a = c.args in
    let good = fine _ c.in_default-found.not-Fault in
    carried s (λ (st : State) (at n : ℕ). MarkedWalk a.file.now a.rows.now c.lay_found-used.new.rows c.if-is_met.names c.loop-did.shapes st at n (c.loop-did.used + c.lay_found-used.result))
    (record {
      scan = scan-turn _ _ _ _ _ _ _ w.scan _ (cut-there s) _ (gave-there s) good _ _ c.lay_found-used.ensures;
      names-met = mark-turn w.names-met (cut-there s) (whole-there s) _ (gave-there s) good _ (rw s.behind at c.is_met.ensures) _
          (elim c.if-is_met.branch [ then-is_met x ↦ inl (x.if-is_met.true, x.names-is ∙ s.behind) | else-is_met y ↦ inr (y.if-is_met.false, y.names-is) ]);
      shapes-met = mark-turn w.shapes-met (cut-there s) (whole-there s) _ (gave-there s) good _ (rw s.behind at c.is_met-in-Some.ensures) _ (inr (c.if-is_met-2.false, refl));
    })

pub loop-did-smaller-then-is_met-2 : goal.loop-did-smaller-then-is_met-2
loop-did-smaller-then-is_met-2 c = nearer c.in-Some.ensures

pub loop-did-preserved-then-is_met-2 : goal.loop-did-preserved-then-is_met-2
loop-did-preserved-then-is_met-2 c =
    let s = c.in-Some.ensures in
    let w = c.loop-did.invariant in
    let a = c.args in
    let good = fine _ c.in_default-found.not-Fault in
    carried s (λ (st : State) (at n : ℕ). MarkedWalk a.file.now a.rows.now c.lay_found-used.new.rows c.if-is_met.names c.read.new.self st at n (c.loop-did.used + c.lay_found-used.result))
    (record {
      scan = scan-turn _ _ _ _ _ _ _ w.scan _ (cut-there s) _ (gave-there s) good _ _ c.lay_found-used.ensures;
      names-met = mark-turn w.names-met (cut-there s) (whole-there s) _ (gave-there s) good _ (rw s.behind at c.is_met.ensures) _
          (elim c.if-is_met.branch [ then-is_met x ↦ inl (x.if-is_met.true, x.names-is ∙ s.behind) | else-is_met y ↦ inr (y.if-is_met.false, y.names-is) ]);
      shapes-met = mark-turn w.shapes-met (cut-there s) (whole-there s) _ (gave-there s) good _ (rw s.behind at c.is_met-in-Some.ensures) _ (inl (c.if-is_met-2.true, s.behind));
    })

pub shape_of-rows : goal.shape_of-rows
shape_of-rows c = c.loop-did.invariant.scan.long

pub returns : goal.returns
returns c =
    let w = c.loop-did.invariant in
    let t = c.in_default.ensures.0 in
    let e : c.read.new.self ≡ c.loop-did.walk = c.in_default.ensures.1 in
    record {
      scanning = scan-end _ _ _ _ _ _ _ w.scan t _ (rw e at c.ending.ensures) _ (rw e at c.answer-scanned.ensures);
      names = mark-end w.names-met t;
      shapes = mark-end w.shapes-met t;
    }
