-- The blocks of a restated text last as long as they did. Assumes nothing.
use Prim.Native.Nat.{ℕ, ◌*◌, ◌/◌, min, ◌≤◌, ◌<◌}
use mathlib.Core.Bool.{true}
use mathlib.Core.List.{List}
use mathlib.Core.Logic.{⊎_elim}
use mathlib.Core.Path.{◌≡◌, refl, sym, ap, ◌∙◌}
use native.Mathlib.Omega.{arith}
use lib.IntN.{ℤ, pos, nat_abs}
use lib.ListN.{length}
use Rattle.text.proofs.Cases.{eq-or-ne}
use Rattle.signed.specs.Signed.{largest, same_z}
use Rattle.signed.proofs.Sign.{same_z-refl}
use Rattle.unit.specs.declared.Rasters.{Rasters}
use Rattle.shape.specs.declared.Edition.{Edition}
use Rattle.shape.specs.declared.Edition.TheVariants.{V13, V14}
use Rattle.columns.specs.Columns.{form_number}
use Rattle.columns.specs.Rows.{row_width}
use Rattle.columns.specs.declared.Form.TheVariants.{Block}
use Rattle.tables.specs.Tables.{number_at, class_of, class_at, is_row_of}
use Rattle.file.specs.Rows.{rows_of}
use Rattle.rasters.specs.Rasters.{rasters_of}
use Rattle.needs.specs.Needs.{site_rasters}
use Rattle.blocks.specs.Blocks.{block_length, is_block}
use Rattle.lengths.specs.Lengths.{micros_at}
use Rattle.sayable.specs.Sayable.{nanos_at}
use Rattle.durations.specs.Durations.{delay_number}
use Rattle.durations.proofs.Using.{number-zero}
use Rattle.said.specs.Said.{duration_of, duration_number}
use Rattle.reader.specs.Reading.{zeros, rows_laid, rows_out}
use Rattle.sources.specs.Sources.{own_rasters}
use Rattle.demands.specs.Refusing.{text_in}
use Rattle.arranged.specs.Alike.{Alike}
use Rattle.arranged.proofs.Lookup.{alike-kind, alike-back, delays}
use Rattle.arranged.proofs.Turning.{alike_then}
use Rattle.arranged.proofs.Blocks.{Lasts, by-steps, by-none, by-delay}
use Rattle.restated_source.proofs.Saying.{whole-micros, on-raster, delay-few}
use Rattle.plays_same.proofs.Tables.{full-length}
use Rattle.plays_same.proofs.Facts.{alike-once, row-only}
use Rattle.plays_same.proofs.Durations.{steps-said, micros-said}
use Rattle.plays_same.proofs.Back.{Sayable, back-readable, own-rasters, back-rasters}
use Rattle.plays_same.proofs.Arrangement.{rows-once, text-again, text-duration, text-delay}
use Rattle.plays_same.proofs.Shapes.{source-alike}

module _ {target : Edition} {file site : List ℕ} {room size : ℕ} (v : Sayable target file site room size) where
  abbrev rows : List ℤ
  rows = rows_out file site room size

  abbrev count : ℕ
  count = length (rows_of file)

  abbrev text : List ℕ
  text = text_in target file site room size count

  abbrev source : List ℤ
  source = rows_laid file (zeros room)

  abbrev raster : ℕ
  raster = (own_rasters file site).block.0

  abbrev e : Edition
  e = v.keeps.end.edition

  abbrev lasts_for : ℕ → ℕ
  lasts_for k = block_length e (rasters_of e file site) source count v.keeps.samples k

  -- ---- A block of the source, and its ns
  pub block-nanos : (k : ℕ) → k < count → number_at source k 0 ≡ pos (form_number Block) → nanos_at rows k ≡ lasts_for k
  unfolding nanos_at
  block-nanos k h i = ap nat_abs (full-length file room v.keeps.rows_fit site size v.sound v.keeps k h i)

  block_here : (k : ℕ) → k < count → number_at source k 0 ≡ pos (form_number Block) → is_block rows k ≡ true
  unfolding same_z
  block_here k h i = rw (sym (alike-kind (source-alike v k h)) ∙ i)

  raster-back : (rasters_of target text site).block.0 ≡ raster
  raster-back = ap (λ (q : Rasters). q.block.0) (back-rasters v ∙ sym (own-rasters v))

  module _ (room' : ℕ) (fits : length (rows_of text) ≤ room' / row_width) where
    abbrev laid : List ℤ
    laid = rows_laid text (zeros room')

    abbrev m : ℕ
    m = length (rows_of text)

    -- the number of its duration, in the text
    duration-number : (k j : ℕ) → k < count → j < m → number_at source k 0 ≡ pos (form_number Block) → Alike source k laid j → number_at laid j 2 ≡ duration_number target raster rows count k
    unfolding same_z
    duration-number k j h l i y =
        let d = text-duration v room' fits j l (rw (sym (alike-kind y) ∙ i)) in
        let p = alike-once (rows-once v) d.there h d.alike (alike_then (alike-back (source-alike v k h)) y) in
        d.lasts ∙ ap (duration_number target raster rows count) p

    module _ (k j : ℕ) (h : k < count) (l : j < m) (i : number_at source k 0 ≡ pos (form_number Block)) (y : Alike source k laid j) where
      in-steps : target ≡ V14 → Lasts target (rasters_of target text site) laid m j (lasts_for k)
      in-steps t =
          let q = own_rasters file site in
          let s = steps-said q rows k (block_here k h i) count (on-raster target q (site_rasters site) rows count v.sayable t k h) in
          by-steps t
          (ap (λ (z : ℤ). nat_abs z * (rasters_of target text site).block.0) (duration-number k j h l i y ∙ ap (λ (g : Edition). duration_number g raster rows count k) t)
          ∙ ap (λ (z : ℕ). nat_abs (duration_number V14 raster rows count k) * z) raster-back ∙ s ∙ block-nanos k h i)

      -- the delay row of a block that lasts
      delay-number : target ≡ V13 → number_at laid j 2 ≡ pos (delay_number rows count k)
      unfolding duration_number duration_of
      delay-number t =
          let few = (back-readable v).few in
          let d = delay-few rows count k in
          let z : min (delay_number rows count k) largest ≡ delay_number rows count k = omega arith in
          duration-number k j h l i y ∙ ap (λ (g : Edition). duration_number g raster rows count k) t ∙ ap pos z

      delay-row : (r : ℕ) (n : ℕ) → number_at laid r 0 ≡ delays → number_at laid r 1 ≡ pos n → is_row_of laid delays (pos n) r ≡ true
      unfolding is_row_of class_at class_of same_z
      delay-row r n a b = rw (a, b) (same_z-refl (pos n))

      by_row : target ≡ V13 → (nanos_at rows k ≡ 0 → ⊥) → Lasts target (rasters_of target text site) laid m j (lasts_for k)
      unfolding micros_at
      by_row t z =
          let d = text-delay v room' fits t k h (block_here k h i) z in
          let n = delay-number t in
          let least = d.least in
          let is = delay-row d.r (delay_number rows count k) d.kind d.number in
          by-delay t d.r (λ (w : number_at laid j 2 ≡ pos 0). let u = ap nat_abs (sym n ∙ w) in omega arith)
          (rw n (row-only laid m (text-again v room' fits) delays (pos (delay_number rows count k)) d.r d.there is))
          (ap (λ (c : ℤ). nat_abs c * 1000) d.lasts ∙ micros-said (own_rasters file site) rows k (block_here k h i) (whole-micros target (own_rasters file site) (site_rasters site) rows count v.sayable t k h) ∙ block-nanos k h i)

      no_row : target ≡ V13 → nanos_at rows k ≡ 0 → Lasts target (rasters_of target text site) laid m j (lasts_for k)
      no_row t z = by-none t (delay-number t ∙ ap pos (sym (number-zero rows count k (nanos_at rows k) refl z))) (sym (block-nanos k h i) ∙ z)

      pub text-lasts : Lasts target (rasters_of target text site) laid m j (lasts_for k)
      text-lasts = go target refl
        where
          go : (g : Edition) → target ≡ g → Lasts target (rasters_of target text site) laid m j (lasts_for k)
          go V13 t = ⊎_elim (λ z. no_row t z) (λ z. by_row t z) (eq-or-ne (nanos_at rows k) 0)
          go V14 t = in-steps t
