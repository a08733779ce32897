use Prim.Native.Nat.{ℕ, ◌≤◌}
use mathlib.Core.Bool.{false}
use mathlib.Core.List.{List}
use mathlib.Core.Path.{◌≡◌, refl, ◌∙◌}
use native.Mathlib.Omega.{arith}
use lib.Dec.{eqb}
use lib.IntN.{ℤ, pos}
use Rattle.numeral.specs.declared.Decimal.{Decimal}
use lib.ListN.{length}
use Rattle.signed.proofs.Machine.{rd-at}
use Rattle.expanding.specs.Expand.{fresh_of, sums_of}
use Rattle.text.specs.Lines.{lines_of}
use Rattle.shape.specs.Stored.{all_sound, values_of}
use Rattle.expanding.specs.Inside.{judged, soundly, told, resume, Ready, Begun, Went}
use Rattle.expanding.specs.declared.State.{State}
use Rattle.expanding.specs.declared.State.TheVariants.{Fresh, Repeat, Done, Bad}
use Rattle.expanding.proofs.Judging.{told-end}
use Rattle.expanding.proofs.lay_runs.Invariants.{Standing}
use Rattle.expanding.proofs.lay_runs.Goals as goal

start : {text : List ℕ} (num : ℕ) (l : List ℤ) {s : State} → Begun text 0 0 (pos 0) s → Standing text num l l s
start num l b = record { ready = b.ready num (omega arith); long = refl; same = b.same num l }

-- a turn
on : {text : List ℕ} {num : ℕ} {l m o : List ℤ} {s r : State} → Standing text num l m s → length o ≡ length m → Went text num m o s r → Standing text num l o r
on i h w = record { ready = w.ready; long = h ∙ i.long; same = w.same ∙ i.same }

-- the ends
finished : {text : List ℕ} {num : ℕ} {l m : List ℤ} {s : State} (at : ℕ) → s ≡ Done at → Standing text num l m s
    → told (eqb at num) m ≡ soundly (all_sound (lines_of text)) (judged num l 0 (sums_of (pos 0) (fresh_of (values_of text))))
unfolding resume
finished {text} {num} {l} {m} at e i = told-end at num m ∙ (rw e at i.same)

broken : {text : List ℕ} {num : ℕ} {l m : List ℤ} {s : State} (k : List ℤ) → s ≡ Bad → Standing text num l m s
    → told false k ≡ soundly (all_sound (lines_of text)) (judged num l 0 (sums_of (pos 0) (fresh_of (values_of text))))
unfolding resume told
broken k e i = rw e at i.same

-- what the next call asks
fresh-asks : {text : List ℕ} {num : ℕ} {l m : List ℤ} {s : State} {from at : ℕ} {sum : ℤ} {value : Decimal}
    → s ≡ Fresh from at sum value → Standing text num l m s → at ≤ num
unfolding Ready
fresh-asks e i = rw e at i.ready

repeat-asks : {text : List ℕ} {num : ℕ} {l m : List ℤ} {s : State} {from at : ℕ} {sum : ℤ} {last : Decimal}
    → s ≡ Repeat from at sum last → Standing text num l m s → at ≤ num
unfolding Ready
repeat-asks e i = rw e at i.ready

pub loop-state-init : goal.loop-state-init
loop-state-init c = start _ _ c.next_fresh-state.ensures

pub fresh-state-requires : goal.fresh-state-requires
fresh-state-requires c = fresh-asks c.in-Fresh.is c.loop-state.invariant

pub loop-state-smaller-in-Fresh : goal.loop-state-smaller-in-Fresh
loop-state-smaller-in-Fresh c = rw c.in-Fresh.is (rw (rd-at c.in-Fresh.sum (omega arith)) at c.fresh-state.ensures).less

pub loop-state-preserved-in-Fresh : goal.loop-state-preserved-in-Fresh
loop-state-preserved-in-Fresh c = on c.loop-state.invariant (omega arith) (rw c.in-Fresh.is (rw (rd-at c.in-Fresh.sum (omega arith)) at c.fresh-state.ensures))

pub repeat-state-requires : goal.repeat-state-requires
repeat-state-requires c = repeat-asks c.in-Repeat.is c.loop-state.invariant

pub loop-state-smaller : goal.loop-state-smaller
loop-state-smaller c = rw c.in-Repeat.is (rw (rd-at c.in-Repeat.sum (omega arith)) at c.repeat-state.ensures).less

pub loop-state-preserved : goal.loop-state-preserved
loop-state-preserved c = on c.loop-state.invariant (omega arith) (rw c.in-Repeat.is (rw (rd-at c.in-Repeat.sum (omega arith)) at c.repeat-state.ensures))

pub shape_of-samples-in-Done : goal.shape_of-samples-in-Done
shape_of-samples-in-Done c = c.loop-state.invariant.long

pub returns-in-Done : goal.returns-in-Done
returns-in-Done c = finished _ c.in-Done.is c.loop-state.invariant

pub shape_of-samples-in-Bad : goal.shape_of-samples-in-Bad
shape_of-samples-in-Bad c = c.loop-state.invariant.long

pub returns-in-Bad : goal.returns-in-Bad
returns-in-Bad c = broken _ c.in-Bad.is c.loop-state.invariant
