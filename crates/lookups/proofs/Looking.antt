-- When nothing is looked up. Assumes nothing.
use Prim.Native.Nat.{ℕ}
use mathlib.Core.Bool.{Bool, true, false, cond, not, ◌||◌, true≢false}
use mathlib.Core.List.{List}
use mathlib.Core.Path.{◌≡◌, refl, sym, ◌∙◌}
use lib.Dec.{eqb}
use Rattle.shape.specs.declared.Edition.{Edition}
use Rattle.places.specs.declared.Fault.{Fault}
use Rattle.file.specs.Rows.{scanned_of}
use Rattle.std.proofs.Common.{Err, Ok}
use Rattle.file.specs.Outcome.{Scanned, File, Fault as ScannedFault}
use Rattle.passing.specs.Sound.{sound_of}
use Rattle.passing.proofs.Sound.{sound-scanned}
use Rattle.definitions.specs.Definitions.{site_fault}
use Rattle.repeats.specs.Repeats.{duplicate_of}
use Rattle.questions.specs.Asked.{is_big}
use Rattle.lookups.specs.Looking.{is_at_fault, is_faulty}

-- ---- whether a line is at fault
module _ (file : List ℕ) (s : Scanned) (p : s ≡ scanned_of file) where
  pub no-fault : {e : Edition} {n m : ℕ} {defined : Bool} → s ≡ File e n m defined → false ≡ is_at_fault (scanned_of file)
  unfolding is_at_fault
  no-fault q = rw (← p, q)

  pub a-fault : {fault : Fault} {line : ℕ} → s ≡ ScannedFault fault line → true ≡ is_at_fault (scanned_of file)
  unfolding is_at_fault
  a-fault q = rw (← p, q)

-- ---- whether anything is
module _ (file site : List ℕ) (b : Bool) (p : b ≡ is_big file site) where
  pub faulty-big : b ≡ true → true ≡ is_faulty file site
  unfolding is_faulty
  faulty-big h = rw (← p, h)

  module _ (h : b ≡ false) (f : Bool) (q : f ≡ is_at_fault (scanned_of file)) where
    pub faulty-line : f ≡ true → true ≡ is_faulty file site
    unfolding is_faulty
    faulty-line i = rw (← p, h, ← q, i)

    module _ (i : f ≡ false) (s : Bool) (t : s ≡ site_fault site) where
      pub faulty-site : s ≡ true → true ≡ is_faulty file site
      unfolding is_faulty
      faulty-site j = rw (← p, h, ← q, i, ← t, j)

      pub faulty-again : s ≡ false → (again : ℕ) → again ≡ duplicate_of file → not (eqb again 0) ≡ is_faulty file site
      unfolding is_faulty
      faulty-again j again k = rw (← p, h, ← q, i, ← t, j, k)

-- ---- where there is no fault, no line is at fault
pub no_line : (file : List ℕ) (s : Scanned) → s ≡ scanned_of file → is_at_fault s ≡ false → sound_of file ≡ true
unfolding is_at_fault
no_line file (Ok got) p q = sound-scanned file p
no_line file (Err why) p q = absurd (true≢false q)

pub sound-file : (file site : List ℕ) (b : Bool) → b ≡ is_faulty file site → b ≡ false → sound_of file ≡ true
unfolding is_faulty
sound-file file site b p h = no_line file (scanned_of file) refl (second (is_big file site) (is_at_fault (scanned_of file)) (site_fault site || not (eqb (duplicate_of file) 0)) (sym p ∙ h))
  where
    second : (x y z : Bool) → x || (y || z) ≡ false → y ≡ false
    second true y z e = absurd (true≢false e)
    second false true z e = absurd (true≢false e)
    second false false z e = refl

-- ---- what is answered: one thing at a fault, else another
module _ (file site : List ℕ) (b : Bool) (p : b ≡ is_faulty file site) {A : Type 0} (none found : A) where
  pub faulty-none : b ≡ true → none ≡ cond (is_faulty file site) none found
  faulty-none h = rw (← p, h)

  pub sound-found : b ≡ false → found ≡ cond (is_faulty file site) none found
  sound-found h = rw (← p, h)
