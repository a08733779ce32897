use Rattle.std.proofs.Common.{None, Some}
use Prim.Native.Nat.{ℕ, ◌+◌, ◌≤◌, ◌<◌}
use mathlib.Core.Bool.{false}
use mathlib.Core.List.{List, ◌∷◌}
use mathlib.Core.Path.{◌≡◌, refl, sym, ap, ◌∙◌}
use native.Mathlib.Omega.{arith}
use lib.Dec.{eqb}
use lib.IntN.{ℤ, pos}
use lib.ListN.{length, set, length-set}
use Rattle.signed.proofs.Machine.{rd-at}
use Rattle.numeral.specs.declared.Decimal.{Decimal}
use Rattle.shape.specs.Samples.{add_of}
use Rattle.expanding.specs.Expand.{plain_of}
use Rattle.text.specs.Lines.{lines_of}
use Rattle.shape.specs.Stored.{all_sound, values_of, values_at}
use Rattle.expanding.specs.Inside.{sound_at, ValueAt, EndAt, bad, judged, soundly, told}
use Rattle.expanding.proofs.Judging.{soundly-bad, told-end, plain_step, plain-beyond, plain-late}
use Rattle.expanding.proofs.lay_plain.Invariants.{Laying}
use Rattle.expanding.proofs.lay_plain.Goals as goal

start : (text : List ℕ) (num : ℕ) (l : List ℤ) → Laying text num l l 0 0
start text num l = record { due = omega arith; long = refl; same = refl }

module _ (text : List ℕ) (num : ℕ) (l m : List ℤ) (from at : ℕ) (i : Laying text num l m from at) where
  -- the values are at an end
  finished : EndAt text from → told (eqb at num) m ≡ soundly (all_sound (lines_of text)) (judged num l 0 (plain_of (values_of text)))
  unfolding soundly plain_of judged
  finished e = told-end at num m ∙ (rw (e.sound, e.values) at i.same)

  -- a line is at fault
  faulty : (k : List ℤ) → sound_at text from ≡ false → told false k ≡ soundly (all_sound (lines_of text)) (judged num l 0 (plain_of (values_of text)))
  unfolding soundly told
  faulty k e = rw e at i.same

  module _ (d : Decimal) (behind : ℕ) (v : ValueAt text from d behind) where
    -- the samples are bad
    refused : (k : List ℤ) → judged num m at (plain_of (d ∷ values_at text behind)) ≡ bad → told false k ≡ soundly (all_sound (lines_of text)) (judged num l 0 (plain_of (values_of text)))
    unfolding told
    refused k e = sym (soundly-bad (sound_at text behind)) ∙ (rw (v.sound, v.values, e) at i.same)

    late : (k : List ℤ) → num ≤ at → told false k ≡ soundly (all_sound (lines_of text)) (judged num l 0 (plain_of (values_of text)))
    late k h = refused k (plain-late num m at d (values_at text behind) h)

    beyond : (k : List ℤ) → add_of (pos 0) d ≡ None → told false k ≡ soundly (all_sound (lines_of text)) (judged num l 0 (plain_of (values_of text)))
    beyond k e = refused k (plain-beyond num m at d (values_at text behind) e)

    turn : (z : ℤ) (m' : List ℤ) → at < num → add_of (pos 0) d ≡ Some z → m' ≡ set m at z → Laying text num l m' behind (at + 1)
    turn z m' h e f =
        record {
          due = omega arith;
          long = ap length f ∙ length-set m at z ∙ i.long;
          same = rw (f, ← plain_step num m at d (values_at text behind) z e) (rw (v.sound, v.values) at i.same);
        }

pub loop-d-init : goal.loop-d-init
loop-d-init c = start _ _ _

pub shape_of-samples-then-num-at : goal.shape_of-samples-then-num-at
shape_of-samples-then-num-at c = c.loop-d.invariant.long

pub returns-then-num-at : goal.returns-then-num-at
returns-then-num-at c = late _ _ _ _ _ _ c.loop-d.invariant _ _ (rw c.in-Value.is at c.next_value.ensures) _ c.if-num-at.true

pub overflow_add-at : goal.overflow_add-at
overflow_add-at c = omega arith

pub loop-d-smaller : goal.loop-d-smaller
loop-d-smaller c = let v = (rw c.in-Value.is at c.next_value.ensures) in omega (arith, v.further, v.inside)

pub loop-d-preserved : goal.loop-d-preserved
loop-d-preserved c =
    turn _ _ _ _ _ _ c.loop-d.invariant _ _ (rw c.in-Value.is at c.next_value.ensures) _ _ (omega arith) (sym c.add_value.ensures ∙ c.in-Some.is)
    (c.store.ensures ∙ rw (rd-at c.in-Some.z (omega arith)))

pub shape_of-samples-in-None : goal.shape_of-samples-in-None
shape_of-samples-in-None c = c.loop-d.invariant.long

pub returns-in-None : goal.returns-in-None
returns-in-None c =
    beyond _ _ _ _ _ _ c.loop-d.invariant _ _ (rw c.in-Value.is at c.next_value.ensures) _ (sym c.add_value.ensures ∙ c.in-None.is)

pub shape_of-samples-in-End : goal.shape_of-samples-in-End
shape_of-samples-in-End c = c.loop-d.invariant.long

pub returns-in-End : goal.returns-in-End
returns-in-End c = finished _ _ _ _ _ _ c.loop-d.invariant (rw c.in-End.is at c.next_value.ensures)

pub shape_of-samples-in-Bad : goal.shape_of-samples-in-Bad
shape_of-samples-in-Bad c = c.loop-d.invariant.long

pub returns-in-Bad : goal.returns-in-Bad
returns-in-Bad c = faulty _ _ _ _ _ _ c.loop-d.invariant _ (rw c.in-Bad.is at c.next_value.ensures)
