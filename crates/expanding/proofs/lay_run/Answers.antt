use Rattle.std.proofs.Common.{None, Some}
use Rattle.signed.proofs.Machine.{rd-is, rd-at}
use Prim.Native.Nat.{ℕ, suc, ◌+◌, ◌-◌, ◌≤◌, ◌<◌}
use mathlib.Core.List.{List}
use mathlib.Core.Path.{◌≡◌, refl, sym, ap, ◌∙◌}
use native.Mathlib.Omega.{arith}
use native.Mathlib.Nat.{add-zero}
use lib.IntN.{ℤ}
use lib.ListN.{length, set, length-set}
use Rattle.numeral.specs.declared.Decimal.{Decimal}
use Rattle.shape.specs.Samples.{add_of}
use Rattle.expanding.specs.Expand.{repeated}
use Rattle.expanding.specs.Inside.{ran_to, Ran}
use Rattle.expanding.proofs.Judging.{run_step, run-beyond, run-over}
use Rattle.expanding.proofs.lay_run.Invariants.{Running}
use Rattle.expanding.proofs.lay_run.Goals as goal

never : {A : Type 0} (s : ℤ) → None ≡ Some s → A
never s e = absurd (let z : ◌≡◌ {A = ℕ} 0 1 = cc in omega arith)

module _ (num : ℕ) (l : List ℤ) (at n : ℕ) (sum : ℤ) (d : Decimal) where
  -- more than is due
  over : at ≤ num → num - at < n → Ran num l l at n sum d None
  unfolding ran_to
  over h k = record { same = λ t. run-over n num l at sum d t h k; fits = λ s e. never s e }

  start : at ≤ num → n ≤ num - at → Running num l at n sum d l sum 0
  start h k =
      let e : n - 0 ≡ n = omega arith in
      record { fits = omega arith; inside = omega arith; long = refl; same = λ t. rw (add-zero at, e) }

  module _ (m : List ℤ) (s : ℤ) (k : ℕ) (r : Running num l at n sum d m s k) where
    one_more : k < n → n - k ≡ suc (n - (k + 1))
    one_more h = omega arith

    turn : (z : ℤ) (m' : List ℤ) → k < n → add_of s d ≡ Some z → m' ≡ set m (at + k) z → Running num l at n sum d m' z (k + 1)
    turn z m' h e f =
        let a : at + k + 1 ≡ at + (k + 1) = omega arith in
        record {
          fits = r.fits;
          inside = omega arith;
          long = ap length f ∙ length-set m (at + k) z ∙ r.long;
          same = λ t. r.same t ∙ rw (one_more h, f, ← a) (run_step num m (at + k) s d (n - (k + 1)) t z e);
        }

    stop : k < n → add_of s d ≡ None → Ran num l m at n sum d None
    unfolding ran_to
    stop h e = record { same = λ t. r.same t ∙ rw (one_more h) (run-beyond num m (at + k) s d (n - (k + 1)) t e); fits = λ y q. never y q }

    end : n ≤ k → Ran num l m at n sum d (Some s)
    unfolding ran_to repeated
    end h =
        let i = r.inside in
        let a : k ≡ n = omega arith in
        let b : n - k ≡ 0 = omega arith in
        record { same = λ t. r.same t ∙ rw (b, a); fits = λ y q. r.fits }

pub returns-then-num-at : goal.returns-then-num-at
returns-then-num-at c = over _ _ _ _ _ _ c.requires c.if-num-at.true

pub loop-k-init : goal.loop-k-init
loop-k-init c = start _ _ _ _ _ _ c.requires c.if-num-at.false

pub loop-k-preserved : goal.loop-k-preserved
loop-k-preserved c = let z = c.in_ok-s.s in
    let f = rd-at z (omega arith) in
    rw f (turn _ _ _ _ _ _ _ _ _ c.loop-k.invariant _ _ (omega arith) (sym c.add_value.ensures ∙ c.in_ok-s.was) (c.store.ensures ∙ rw f))

pub returns-in_err-s : goal.returns-in_err-s
returns-in_err-s c = rw c.from_residual.ensures (rw (rd-is c.ranges.sum) at (stop _ _ _ _ _ _ _ _ _ c.loop-k.invariant (omega arith) (sym c.add_value.ensures ∙ c.in_err-s.was)))

pub shape_of-samples : goal.shape_of-samples
shape_of-samples c = c.loop-k.invariant.long

pub returns : goal.returns
returns c = rw (rd-is c.ranges.sum) at (end _ _ _ _ _ _ _ _ _ c.loop-k.invariant c.loop-k-test.false)
