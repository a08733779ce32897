-- What a target says of a block's duration lasts as long as the block did. Assumes nothing.
use Rattle.std.proofs.Common.{None, Option, Some}
use Rattle.unit.specs.declared.Micros.{Micros}
use Rattle.unit.specs.declared.RasterCount.{RasterCount}
use Prim.Native.Nat.{ℕ, ◌*◌, ◌^◌, min, ◌≤◌}
use mathlib.Core.Bool.{true, false, true≢false}
use mathlib.Core.List.{List}
use mathlib.Core.Path.{◌≡◌, refl, sym}
use native.Mathlib.Omega.{arith}
use borrow.Author.Tests.{ltb-false}
use lib.IntN.{ℤ, nat_abs}
use Rattle.signed.specs.Signed.{largest}
use Rattle.unit.specs.Time.{in_micros, on_raster}
use Rattle.unit.specs.declared.Rasters.{Rasters}
use Rattle.unit.proofs.Exact.{micros-whole, steps-whole}
use Rattle.shape.specs.declared.Edition.TheVariants.{V14}
use Rattle.blocks.specs.Blocks.{is_block}
use Rattle.sayable.specs.Sayable.{is_kind, nanos_at, is_between, off_micros, not_steps, off_raster}
use Rattle.said.specs.Said.{steps_of, duration_of, duration_number}
use Rattle.section_text.specs.Sections.{whole_micros, micros_at}

-- ---- A block on the raster lasts as many steps as are said
steps-are : (ns raster : ℕ) → not_steps (on_raster ns raster) ≡ false → (steps_of (on_raster ns raster) * raster ≡ ns) × (steps_of (on_raster ns raster) ≤ 10 ^ 9)
steps-are ns raster e = go (on_raster ns raster) refl e
  where
    go : (o : (Option RasterCount)) → on_raster ns raster ≡ o → not_steps o ≡ false → (steps_of o * raster ≡ ns) × (steps_of o ≤ 10 ^ 9)
    go (Some c) p f = unfold steps_of not_steps in (sym (steps-whole ns raster c.0 p).0, ltb-false (10 ^ 9) c.0 (unfold not_steps in f))
    go None p f = absurd (true≢false (unfold not_steps in f))

module _ (q : Rasters) (rows : List ℤ) (k : ℕ) (block : is_block rows k ≡ true) where
  pub steps-said : (count : ℕ) → off_raster q rows k ≡ false → nat_abs (duration_number V14 q.block.0 rows count k) * q.block.0 ≡ nanos_at rows k
  unfolding off_raster is_kind duration_number duration_of
  steps-said count e =
      let s = steps-are (nanos_at rows k) q.block.0 (rw block at e) in
      let few = s.1 in
      let m : min (steps_of (on_raster (nanos_at rows k) q.block.0)) largest ≡ steps_of (on_raster (nanos_at rows k) q.block.0) = omega arith in
      rw m s.0

  -- ---- A block of whole µs lasts as many as are said
  pub micros-said : off_micros rows k ≡ false → micros_at rows k * 1000 ≡ nanos_at rows k
  unfolding off_micros is_kind micros_at
  micros-said e = go (in_micros (nanos_at rows k)) refl (rw block at e)
    where
      go : (o : (Option Micros)) → in_micros (nanos_at rows k) ≡ o → is_between o ≡ false → whole_micros o * 1000 ≡ nanos_at rows k
      go (Some m) p f = unfold whole_micros in sym (micros-whole (nanos_at rows k) m.0 p)
      go None p f = absurd (true≢false (unfold is_between in f))
