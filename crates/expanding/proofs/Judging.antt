-- Laws of samples laid over a table: what comes of them is the table with them in it, if they end well and are as many as declared. Assumes
-- nothing.
use Rattle.std.proofs.Common.{None, Option, Some}
use Prim.Native.Nat.{ℕ, zero, suc, ◌+◌, ◌-◌, ◌≤◌, ◌<◌}
use mathlib.Core.Bool.{Bool, true, false, cond, ◌&&◌}
use mathlib.Core.List.{List, ◌∷◌}
use mathlib.Core.Path.{◌≡◌, refl, sym, ap, ◌∙◌}
use mathlib.Core.Logic.{⊎_elim}
use native.Mathlib.Numerals.{add-one}
use native.Mathlib.Nat.{add-zero, zero-add}
use native.Mathlib.Omega.{arith}
use borrow.Author.Tests.{ne_eqb}
use lib.Dec.{eqb}
use lib.IntN.{ℤ, pos}
use lib.ListN.{length, set}
use lib.Seq.{sets}
use Rattle.text.proofs.Cases.{lt-or-ge}
use Rattle.numeral.specs.declared.Decimal.{Decimal}
use Rattle.shape.specs.Samples.{add_of}
use Rattle.expanding.specs.Expand.{Trace, done, fault, next, repeated, then_sum, sums_of, plain_of, samples_in, ends_well, expands_to}
use Rattle.expanding.specs.Inside.{Verdict, good, bad, judged, soundly, told}

-- ---- One sample, or none
pub judged-next : (num : ℕ) (l : List ℤ) (at : ℕ) (r : (Option ℤ)) (k : ℤ → Trace ℤ) (z : ℤ) → r ≡ Some z
    → judged num l at (then_sum r k) ≡ judged num (set l at z) (at + 1) (k z)
unfolding then_sum judged
judged-next num l at r k z e = rw e

pub judged-beyond : (num : ℕ) (l : List ℤ) (at : ℕ) (r : (Option ℤ)) (k : ℤ → Trace ℤ) → r ≡ None → judged num l at (then_sum r k) ≡ bad
unfolding then_sum judged
judged-beyond num l at r k e = rw e

-- ---- Too many samples
pub judged-over : (num : ℕ) (l : List ℤ) (at : ℕ) (t : Trace ℤ) → num < at → judged num l at t ≡ bad
unfolding judged
judged-over num l at done h = rw (ne_eqb at num (λ (e : at ≡ num). omega arith))
judged-over num l at fault h = refl
judged-over num l at (next z t) h = judged-over num (set l at z) (at + 1) t (omega arith)

-- one more where none is due
pub judged-late : (num : ℕ) (l : List ℤ) (at : ℕ) (r : (Option ℤ)) (k : ℤ → Trace ℤ) → num ≤ at → judged num l at (then_sum r k) ≡ bad
unfolding then_sum judged
judged-late num l at (Some z) k h = judged-over num (set l at z) (at + 1) (k z) (omega arith)
judged-late num l at None k h = refl

-- ---- A fault at the end
pub judged-fault : (num : ℕ) (l : List ℤ) (at : ℕ) (s : ℤ) (d : Decimal) → judged num l at (sums_of s (next d fault)) ≡ bad
unfolding sums_of
judged-fault num l at s d = go (add_of s d)
  where
    go : (r : (Option ℤ)) → judged num l at (then_sum r (λ z. sums_of z fault)) ≡ bad
    go (Some z) = unfold then_sum judged sums_of in refl
    go None = unfold then_sum judged in refl

-- ---- A run
module _ (num : ℕ) (l : List ℤ) (at : ℕ) (s : ℤ) (d : Decimal) (n : ℕ) (t : Trace Decimal) where
  pub run_step : (z : ℤ) → add_of s d ≡ Some z
      → judged num l at (sums_of s (repeated (suc n) d t)) ≡ judged num (set l at z) (at + 1) (sums_of z (repeated n d t))
  unfolding repeated sums_of
  run_step z e = judged-next num l at (add_of s d) (λ y. sums_of y (repeated n d t)) z e

  pub run-beyond : add_of s d ≡ None → judged num l at (sums_of s (repeated (suc n) d t)) ≡ bad
  unfolding repeated sums_of
  run-beyond e = judged-beyond num l at (add_of s d) (λ y. sums_of y (repeated n d t)) e

  run-late : num ≤ at → judged num l at (sums_of s (repeated (suc n) d t)) ≡ bad
  unfolding repeated sums_of
  run-late h = judged-late num l at (add_of s d) (λ y. sums_of y (repeated n d t)) h

-- longer than what is due
pub run-over : (n num : ℕ) (l : List ℤ) (at : ℕ) (s : ℤ) (d : Decimal) (t : Trace Decimal) → at ≤ num → num - at < n
    → judged num l at (sums_of s (repeated n d t)) ≡ bad
run-over zero num l at s d t h k = absurd (omega arith)
run-over (suc n) num l at s d t h k =
    ⊎_elim (λ (m : at < num). go (add_of s d) refl (λ z. run-over n num (set l at z) (at + 1) z d t (omega arith) (omega arith)))
    (λ (m : num ≤ at). run-late num l at s d n t m)
    (lt-or-ge at num)
  where
    go : (r : (Option ℤ)) → add_of s d ≡ r → ((z : ℤ) → judged num (set l at z) (at + 1) (sums_of z (repeated n d t)) ≡ bad)
        → judged num l at (sums_of s (repeated (suc n) d t)) ≡ bad
    go (Some z) e f = run_step num l at s d n t z e ∙ f z
    go None e f = run-beyond num l at s d n t e

-- ---- Plain values
module _ (num : ℕ) (l : List ℤ) (at : ℕ) (d : Decimal) (ds : List Decimal) where
  pub plain_step : (z : ℤ) → add_of (pos 0) d ≡ Some z → judged num l at (plain_of (d ∷ ds)) ≡ judged num (set l at z) (at + 1) (plain_of ds)
  unfolding plain_of
  plain_step z e = judged-next num l at (add_of (pos 0) d) (λ y. plain_of ds) z e

  pub plain-beyond : add_of (pos 0) d ≡ None → judged num l at (plain_of (d ∷ ds)) ≡ bad
  unfolding plain_of
  plain-beyond e = judged-beyond num l at (add_of (pos 0) d) (λ y. plain_of ds) e

  pub plain-late : num ≤ at → judged num l at (plain_of (d ∷ ds)) ≡ bad
  unfolding plain_of
  plain-late h = judged-late num l at (add_of (pos 0) d) (λ y. plain_of ds) h

-- ---- All of them
judged-from : (num : ℕ) (l : List ℤ) (at : ℕ) (t : Trace ℤ)
    → judged num l at t ≡ cond (ends_well t && eqb (at + length (samples_in t)) num) (good (sets l at (samples_in t))) bad
unfolding judged ends_well samples_in
judged-from num l at done = rw (add-zero at)
judged-from num l at fault = refl
judged-from num l at (next z t) =
    let e : at + 1 + length (samples_in t) ≡ at + suc (length (samples_in t)) = omega arith in
    judged-from num (set l at z) (at + 1) t ∙ rw (e, add-one at)

pub judged-is : (num : ℕ) (l : List ℤ) (t : Trace ℤ) → judged num l 0 t ≡ cond (expands_to num t) (good (sets l 0 (samples_in t))) bad
unfolding expands_to
judged-is num l t = judged-from num l 0 t ∙ rw (zero-add (length (samples_in t)))

-- ---- Where a line may be at fault
pub soundly-bad : (b : Bool) → soundly b bad ≡ bad
unfolding soundly
soundly-bad true = refl
soundly-bad false = refl

-- ---- What a flag tells
pub told-end : (at num : ℕ) (l : List ℤ) → told (eqb at num) l ≡ cond (eqb at num) (good l) bad
unfolding told
told-end at num l = go (eqb at num)
  where
    go : (b : Bool) → told b l ≡ cond b (good l) bad
    go true = refl
    go false = refl

never : (l : List ℤ) → bad ≡ good l → ⊥
never l e = let z : ◌≡◌ {A = ℕ} 0 1 = cc in omega arith

good-is : (l m : List ℤ) → good l ≡ good m → l ≡ m
good-is l m e = cc

-- that no line is at fault
pub told-sound : (m : List ℤ) (r b : Bool) (v : Verdict) → told r m ≡ soundly b v → r ≡ true → b ≡ true
unfolding told soundly
told-sound m r true v e h = refl
told-sound m r false v e h = absurd (never m (sym (rw h at e)))

pub told-yes : (num : ℕ) (l m : List ℤ) (t : Trace ℤ) (r : Bool) → told r m ≡ judged num l 0 t → r ≡ true
    → (expands_to num t ≡ true) × (m ≡ sets l 0 (samples_in t))
told-yes num l m t r e h = go (expands_to num t) refl
  where
    good-told : good m ≡ cond (expands_to num t) (good (sets l 0 (samples_in t))) bad
    good-told = sym (ap (λ (b : Bool). told b m) h ∙ (unfold told in refl)) ∙ e ∙ judged-is num l t

    go : (b : Bool) → expands_to num t ≡ b → (expands_to num t ≡ true) × (m ≡ sets l 0 (samples_in t))
    go true q = (q, good-is m (sets l 0 (samples_in t)) (good-told ∙ rw q))
    go false q = absurd (never m (sym (good-told ∙ rw q)))

pub told-no : (num : ℕ) (l m : List ℤ) (t : Trace ℤ) (r : Bool) → told r m ≡ judged num l 0 t → r ≡ false → expands_to num t ≡ false
told-no num l m t r e h = go (expands_to num t) refl
  where
    bad-told : bad ≡ cond (expands_to num t) (good (sets l 0 (samples_in t))) bad
    bad-told = sym (ap (λ (b : Bool). told b m) h ∙ (unfold told in refl)) ∙ e ∙ judged-is num l t

    go : (b : Bool) → expands_to num t ≡ b → expands_to num t ≡ false
    go true q = absurd (never (sets l 0 (samples_in t)) (bad-told ∙ rw q))
    go false q = q
