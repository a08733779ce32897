-- Restating a file that was accepted is refused exactly for a fault in the definitions or rasters, a thing on the paper's list, or lack of room. Assumes nothing.
use Rattle.restater.specs.Outcome.{Restated}
use Prim.Native.Nat.{ℕ, ◌^◌, ◌≤◌, ◌<◌, min}
use mathlib.Core.Bool.{Bool, true, false, cond, ◌||◌, true≢false}
use mathlib.Core.List.{List}
use mathlib.Core.Logic.{⊎_elim}
use mathlib.Core.Path.{◌≡◌, refl, sym, ◌∙◌}
use native.Mathlib.Omega.{arith}
use borrow.Author.Tests.{leb-true, leb-false, ltb-true, lt-ltb}
use lib.Dec.{ltb}
use lib.IntN.{ℤ}
use lib.ListN.{length}
use Rattle.text.proofs.Cases.{lt-or-ge}
use Rattle.unit.specs.declared.Rasters.{Rasters}
use Rattle.shape.specs.declared.Edition.{Edition}
use Rattle.shape.specs.declared.Edition.TheVariants.{V13, V14}
use Rattle.definitions.specs.Definitions.{site_fault}
use Rattle.events.specs.Align.{misaligned_at}
use Rattle.tables.specs.Tables.{first_such}
use Rattle.tables.proofs.Found.{first-is}
use Rattle.needs.specs.Needs.{site_rasters}
use Rattle.sayable.specs.Sayable.{is_unknown, has_time, differ, off_micros, names_once, off_raster, unsaid13, unsaid14, unsaid_in, unsaid, any_unsaid, differ_in, unsayable}
use Rattle.answers.specs.declared.Refusal.TheVariants.{Site, Raster}
use Rattle.answers.specs.Outcome.{Accepted as ReadAccepted, Refused as ReadRefused}
use Rattle.reader.specs.Reading.{read_of, rows_out, samples_out}
use Rattle.sources.specs.Sources.{own_rasters, is_below, bad_site_for, lacks_rasters, lacking_for, asked_for}
use Rattle.restater.specs.Restating.{is_unsayable, fits, said, restated_from, restate_of, Restating}
use Rattle.demands.specs.Refusing.{Listed, unknown-extension, time-id, other-raster, half-microseconds, once-named, align-fails, no_steps, text_in, Outcome, site-at-fault, raster-missing, on-the-list, no_room, restated}

-- ---- one of two
or-either : {C : Type 0} (a b : Bool) → a || b ≡ true → (a ≡ true → C) → (b ≡ true → C) → C
or-either true b e f g = f refl
or-either false b e f g = g e

or-one : (a b : Bool) → a ≡ true → a || b ≡ true
or-one a b e = rw e

or-other : (a b : Bool) → b ≡ true → a || b ≡ true
or-other true b e = refl
or-other false b e = e

-- ---- one of n rows
some-row : {C : Type 0} (holds : ℕ → Bool) (n : ℕ) → ltb (first_such holds 0 n) n ≡ true → ((k : ℕ) → k < n → holds k ≡ true → C) → C
some-row holds n e f =
    let h : first_such holds 0 n < n = ltb-true (first_such holds 0 n) n e in
    f (first_such holds 0 n) h ((first-is holds 0 n).here (omega arith))

row-some : (holds : ℕ → Bool) (n k : ℕ) → k < n → holds k ≡ true → ltb (first_such holds 0 n) n ≡ true
row-some holds n k h e =
    ⊎_elim (λ (l : first_such holds 0 n < n). lt-ltb (first_such holds 0 n) n l)
    (λ (l : n ≤ first_such holds 0 n). absurd (true≢false (sym e ∙ (first-is holds 0 n).before k (omega arith) (omega arith))))
    (lt-or-ge (first_such holds 0 n) n)

-- ---- UNSAYABLE is what is on the list
module _ (q s : Rasters) (rows : List ℤ) (n : ℕ) where
  row_listed : (target : Edition) (k : ℕ) → k < n → unsaid_in target q rows k ≡ true → Listed target q s rows n
  unfolding unsaid_in unsaid13 unsaid14
  row_listed V13 k h e =
      or-either (has_time rows k) (off_micros rows k || names_once rows k) e (time-id refl k h)
      (λ f. or-either (off_micros rows k) (names_once rows k) f (half-microseconds refl k h) (once-named refl k h))
  row_listed V14 k h e = or-either (misaligned_at q rows k) (off_raster q rows k) e (align-fails refl k h) (no_steps refl k h)

  differs-listed : (target : Edition) → differ_in target q s ≡ true → Listed target q s rows n
  unfolding differ_in
  differs-listed V13 e = other-raster refl e
  differs-listed V14 e = absurd (true≢false (sym e))

  pub unsayable-listed : (target : Edition) → unsayable target q s rows n ≡ true → Listed target q s rows n
  unfolding unsayable any_unsaid unsaid
  unsayable-listed target e =
      or-either (ltb (first_such (unsaid target q rows) 0 n) n) (differ_in target q s) e
      (λ f. some-row (unsaid target q rows) n f (λ k h g. or-either (is_unknown rows k) (unsaid_in target q rows k) g (unknown-extension k h) (row_listed target k h)))
      (differs-listed target)

  unsaid-row : (target : Edition) (k : ℕ) → k < n → unsaid target q rows k ≡ true → unsayable target q s rows n ≡ true
  unfolding unsayable any_unsaid
  unsaid-row target k h e = or-one (ltb (first_such (unsaid target q rows) 0 n) n) (differ_in target q s) (row-some (unsaid target q rows) n k h e)

  unsaid-in : (target : Edition) (k : ℕ) → k < n → unsaid_in target q rows k ≡ true → unsayable target q s rows n ≡ true
  unfolding unsaid
  unsaid-in target k h e = unsaid-row target k h (or-other (is_unknown rows k) (unsaid_in target q rows k) e)

  pub listed-unsayable : (target : Edition) → Listed target q s rows n → unsayable target q s rows n ≡ true
  unfolding unsaid unsaid_in unsaid13 unsaid14 unsayable differ_in
  listed-unsayable target (unknown-extension k h e) = unsaid-row target k h (or-one (is_unknown rows k) (unsaid_in target q rows k) e)
  listed-unsayable target (time-id t k h e) = unsaid-in target k h (rw t (or-one (has_time rows k) (off_micros rows k || names_once rows k) e))
  listed-unsayable target (other-raster t e) = or-other (any_unsaid target q rows n) (differ_in target q s) (rw t e)
  listed-unsayable target (half-microseconds t k h e) =
      unsaid-in target k h (rw t (or-other (has_time rows k) (off_micros rows k || names_once rows k) (or-one (off_micros rows k) (names_once rows k) e)))
  listed-unsayable target (once-named t k h e) =
      unsaid-in target k h (rw t (or-other (has_time rows k) (off_micros rows k || names_once rows k) (or-other (off_micros rows k) (names_once rows k) e)))
  listed-unsayable target (align-fails t k h e) = unsaid-in target k h (rw t (or-one (misaligned_at q rows k) (off_raster q rows k) e))
  listed-unsayable target (no_steps t k h e) = unsaid-in target k h (rw t (or-other (misaligned_at q rows k) (off_raster q rows k) e))

-- ---- What restating answers for a file that reading accepts
module _ (target : Edition) (file site : List ℕ) (room size space n s : ℕ) where
  not_listed : is_unsayable target file site (rows_out file site room size) n ≡ false → Listed target (own_rasters file site) (site_rasters site) (rows_out file site room size) n → ⊥
  not_listed e l = true≢false (sym (listed-unsayable (own_rasters file site) (site_rasters site) (rows_out file site room size) n target l) ∙ e)

  pub restate-outcome : read_of file site room size ≡ ReadAccepted n s → Outcome target file site room size space n s (restate_of target file site room size space)
  unfolding restate_of asked_for bad_site_for lacking_for is_below restated_from said
  restate-outcome e =
      rw e
      (go (site_fault site) (lacks_rasters target file site) (is_unsayable target file site (rows_out file site room size) n) (fits (text_in target file site room size n) space) refl refl refl refl)
    where
      go : (b c u f : Bool) → site_fault site ≡ b → lacks_rasters target file site ≡ c → is_unsayable target file site (rows_out file site room size) n ≡ u
          → fits (text_in target file site room size n) space ≡ f
          → Outcome target file site room size space n s
          (restated_from (cond b (ReadRefused Site 0) (cond c (ReadRefused Raster 0) (ReadAccepted n s))) target file site (rows_out file site room size) (samples_out file site room size) space)
      go true c u f p q r t = site-at-fault p
      go false true u f p q r t = raster-missing p q
      go false false true f p q r t = rw r (on-the-list p q (unsayable-listed (own_rasters file site) (site_rasters site) (rows_out file site room size) n target r))
      go false false false false p q r t = rw (r, t) (no_room p q (not_listed r) (leb-false (length (text_in target file site room size n)) (min space (2 ^ 24)) t))
      go false false false true p q r t = rw (r, t) (restated p q (not_listed r) (leb-true (length (text_in target file site room size n)) (min space (2 ^ 24)) t))

-- ---- The same of the function that restates, by its contract
pub restating-outcome : {target : Edition} {file site : List ℕ} {table l : List ℤ} {out : List ℕ} {r : Restated} {table' l' : List ℤ} {out' : List ℕ} (n s : ℕ)
    → Restating target file site table l out r table' l' out' → read_of file site (length table) (length l) ≡ ReadAccepted n s
    → Outcome target file site (length table) (length l) (length out) n s r
restating-outcome {target} {file} {site} {table} {l} {out} n s x e = rw x.answer (restate-outcome target file site (length table) (length l) (length out) n s e)
