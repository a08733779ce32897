-- What is not UNSAYABLE of a table: known extensions, no ONCE in 1.3.1, and durations that the target has numbers for. Assumes nothing.
use Rattle.std.proofs.Common.{None, Option, Some}
use Rattle.unit.specs.declared.RasterCount.{RasterCount}
use Prim.Native.Nat.{ℕ, suc, min, ◌^◌, ◌≤◌, ◌<◌}
use mathlib.Core.Bool.{Bool, true, false, cond, ◌||◌}
use mathlib.Core.List.{List}
use mathlib.Core.Path.{◌≡◌, refl, ◌∙◌}
use native.Mathlib.Omega.{arith}
use borrow.Author.Tests.{ltb-true, ltb-false}
use lib.Dec.{eqb, ltb}
use lib.IntN.{ℤ, pos}
use Rattle.signed.specs.Signed.{largest}
use Rattle.numeral.specs.Integer.{largest_id}
use Rattle.unit.specs.Time.{on_raster}
use Rattle.unit.specs.declared.Rasters.{Rasters}
use Rattle.shape.specs.declared.Edition.{Edition}
use Rattle.shape.specs.declared.Edition.TheVariants.{V13, V14}
use Rattle.columns.specs.Columns.{form_number, most_of}
use Rattle.columns.specs.Columns.{duration_of as duration_kind}
use Rattle.columns.specs.declared.Form.TheVariants.{Block}
use Rattle.events.specs.Align.{misaligned_at}
use Rattle.sayable.specs.Sayable.{is_kind, nanos_at, is_unknown, has_time, off_micros, names_once, not_steps, off_raster, unsaid13, unsaid14, unsaid_in, unsaid, any_unsaid, differ_in, unsayable}
use Rattle.sayable.proofs.Saying.{in-13, in-14}
use Rattle.durations.specs.Durations.{first_use, uses_in, delay_number}
use Rattle.said.specs.Said.{steps_of, duration_of}
use Rattle.text.proofs.Cases.{or-none}
use Rattle.restated_laws.proofs.SectionBack.{such-none-of, uses-most}
use Rattle.restated_source.proofs.Listing.{CanSay}

-- ---- Row by row
module _ (target : Edition) (q s : Rasters) (rows : List ℤ) (n : ℕ) (said : unsayable target q s rows n ≡ false) where
  row-said : (k : ℕ) → k < n → (is_unknown rows k ≡ false) × (unsaid_in target q rows k ≡ false)
  unfolding unsayable any_unsaid unsaid
  row-said k h = or-none (is_unknown rows k) (unsaid_in target q rows k) (such-none-of (unsaid target q rows) n (or-none (any_unsaid target q rows n) (differ_in target q s) said).0 k h)

  -- for 1.3.1
  rows-13 : target ≡ V13 → (k : ℕ) → k < n → (has_time rows k ≡ false) × (off_micros rows k || names_once rows k ≡ false)
  unfolding unsaid13
  rows-13 v k h = or-none (has_time rows k) (off_micros rows k || names_once rows k) (in-13 target q rows k v ∙ (row-said k h).1)

  pub no-times : target ≡ V13 → (k : ℕ) → k < n → has_time rows k ≡ false
  no-times v k h = (rows-13 v k h).0

  pub whole-micros : target ≡ V13 → (k : ℕ) → k < n → off_micros rows k ≡ false
  whole-micros v k h = (or-none (off_micros rows k) (names_once rows k) (rows-13 v k h).1).0

  not-once : target ≡ V13 → (k : ℕ) → k < n → names_once rows k ≡ false
  not-once v k h = (or-none (off_micros rows k) (names_once rows k) (rows-13 v k h).1).1

  pub can-say : CanSay target rows n
  can-say = record { known = λ k h. (row-said k h).0; no-once = not-once }

  -- for 1.4.1
  rows-14 : target ≡ V14 → (k : ℕ) → k < n → (misaligned_at q rows k ≡ false) × (off_raster q rows k ≡ false)
  unfolding unsaid14
  rows-14 v k h = or-none (misaligned_at q rows k) (off_raster q rows k) (in-14 target q rows k v ∙ (row-said k h).1)

  pub on-time : target ≡ V14 → (k : ℕ) → k < n → misaligned_at q rows k ≡ false
  on-time v k h = (rows-14 v k h).0

  pub on-raster : target ≡ V14 → (k : ℕ) → k < n → off_raster q rows k ≡ false
  on-raster v k h = (rows-14 v k h).1

-- ---- A block's duration: in 1.4 whole rasters, in 1.3.1 a delay's ID
steps-few : (r : (Option RasterCount)) → not_steps r ≡ false → steps_of r ≤ 10 ^ 9
unfolding not_steps steps_of
steps-few (Some c) e = ltb-false (10 ^ 9) c.0 e
steps-few None e = omega arith

pub delay-few : (rows : List ℤ) (n k : ℕ) → delay_number rows n k ≤ n
unfolding delay_number
delay-few rows n k = go (eqb (nanos_at rows k) 0) (ltb (first_use rows n k) n) refl
  where
    go : (a b : Bool) → ltb (first_use rows n k) n ≡ b → cond a 0 (cond b (suc (uses_in rows n 0 (first_use rows n k))) 0) ≤ n
    go true b e = omega arith
    go false true e = let l = ltb-true (first_use rows n k) n e in let u = uses-most rows n 0 (first_use rows n k) in omega arith
    go false false e = omega arith

pub duration-most : (target : Edition) (q s : Rasters) (rows : List ℤ) (n : ℕ) → unsayable target q s rows n ≡ false → n ≤ largest_id → (k : ℕ) → k < n
    → is_kind rows k (pos (form_number Block)) ≡ true → min (duration_of target q.block.0 rows n k) largest ≤ most_of (duration_kind target)
unfolding duration_of
duration-most V13 q s rows n said few k h b = let m = delay-few rows n k in omega arith
duration-most V14 q s rows n said few k h b =
    let m = steps-few (on_raster (nanos_at rows k) q.block.0) (unfold off_raster in rw b at (on-raster V14 q s rows n said refl k h)) in
    omega arith
