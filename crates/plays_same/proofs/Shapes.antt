-- The shapes of a restated text expand to the samples that they had. Assumes nothing.
use Prim.Native.Nat.{ℕ, ◌/◌, ◌≤◌, ◌<◌}
use mathlib.Core.Bool.{true}
use mathlib.Core.List.{List}
use mathlib.Core.Path.{◌≡◌, sym, ap, ◌∙◌}
use native.Mathlib.Omega.{arith}
use lib.IntN.{ℤ, pos, nat_abs}
use lib.ListN.{length}
use Rattle.signed.specs.Signed.{same_z}
use Rattle.signed.proofs.Sign.{same_z-refl, same_z-true}
use Rattle.shape.specs.declared.Edition.{Edition}
use Rattle.shape_text.specs.Written.{stored_text, all_within}
use Rattle.columns.specs.Columns.{shape_kind}
use Rattle.columns.specs.Rows.{row_width}
use Rattle.tables.specs.Tables.{number_at, samples_at}
use Rattle.file.specs.Rows.{rows_of}
use Rattle.sampling.specs.Sampling.{is_shape_row, text_at, num_at, place_at}
use Rattle.sampling.proofs.Failing.{table-length}
use Rattle.stored.specs.Shapes.{stored_of}
use Rattle.sayable.specs.Sayable.{is_kind}
use Rattle.reader.specs.Reading.{zeros, rows_laid, rows_out, samples_out}
use Rattle.demands.specs.Keeping.{Expands, SamplesHeld}
use Rattle.demands.specs.Refusing.{text_in}
use Rattle.arranged.specs.Alike.{is_anew, Alike}
use Rattle.arranged.proofs.Lookup.{alike-kind, alike-id, alike-back, SameSamples}
use Rattle.arranged.proofs.Turning.{alike_then}
use Rattle.arranged.proofs.Following.{row-there}
use Rattle.restated_shapes.proofs.Expanding.{expands-back, samples-back}
use Rattle.plays_same.proofs.Tables.{full-alike, full-samples}
use Rattle.plays_same.proofs.Facts.{alike-once}
use Rattle.plays_same.proofs.Back.{Sayable, back-readable, back-stored}
use Rattle.plays_same.proofs.Arrangement.{rows-once, text-arranged}

module _ {target : Edition} {file site : List ℕ} {room size : ℕ} (v : Sayable target file site room size) where
  abbrev rows : List ℤ
  rows = rows_out file site room size

  abbrev samples : List ℤ
  samples = samples_out file site room size

  abbrev count : ℕ
  count = length (rows_of file)

  abbrev text : List ℕ
  text = text_in target file site room size count

  abbrev source : List ℤ
  source = rows_laid file (zeros room)

  -- ---- A shape of the source
  pub source-samples : (k : ℕ) → k < count → number_at source k 0 ≡ pos shape_kind → samples_at source k v.keeps.samples ≡ samples_at rows k samples
  source-samples = full-samples file room v.keeps.rows_fit site size v.sound v.keeps

  -- as many as it says
  samples-many : (k : ℕ) → k < count → number_at source k 0 ≡ pos shape_kind → length (samples_at source k v.keeps.samples) ≡ nat_abs (number_at source k 2)
  unfolding samples_at num_at place_at is_shape_row
  samples-many k h i =
      ap length (v.keeps.held.part k h (rw i (same_z-refl (pos shape_kind))))
      ∙ table-length v.keeps.end.edition (num_at source k) (text_at file source k) (num_at source k)

  pub source-alike : (k : ℕ) → k < count → Alike source k rows k
  source-alike k h = full-alike file room v.keeps.rows_fit site size v.sound v.keeps k h

  rows-many : (k : ℕ) → k < count → number_at rows k 0 ≡ pos shape_kind → nat_abs (number_at rows k 2) ≡ length (samples_at rows k samples)
  unfolding is_anew same_z
  rows-many k h i =
      let j = alike-kind (source-alike k h) ∙ i in
      ap nat_abs (sym ((source-alike k h).same 2 (rw j))) ∙ sym (samples-many k h j) ∙ ap length (source-samples k h j)

  -- ---- A shape of the text, and the one that it was
  pub record ShapeFrom (b : List ℤ) (j : ℕ) : Type 0 where
    pub k : ℕ
    pub there : k < count
    pub alike : Alike rows k b j
    pub many : num_at b j ≡ length (samples_at rows k samples)
    pub stored : text_at text b j ≡ stored_text target (samples_at rows k samples)
    pub within : all_within (samples_at rows k samples) ≡ true
    pub some : 1 ≤ length (samples_at rows k samples)
    pub few : length (samples_at rows k samples) ≤ 1000000

  module _ (room' : ℕ) (fits : length (rows_of text) ≤ room' / row_width) where
    abbrev laid : List ℤ
    laid = rows_laid text (zeros room')

    abbrev m : ℕ
    m = length (rows_of text)

    pub shape-from : (j : ℕ) → j < m → is_shape_row laid j ≡ true → ShapeFrom laid j
    unfolding is_shape_row is_anew num_at text_at is_kind same_z
    shape-from j h s =
        let i = same_z-true (number_at laid j 0) (pos shape_kind) s in
        let st = row-there (text-arranged v room' fits) j h shape_kind (λ z. omega arith) i in
        let y = alike-back st.alike in
        let kind = alike-kind y ∙ i in
        let is-shape : is_kind rows st.j (pos shape_kind) ≡ true = rw kind in
        let x = (back-readable v).shapes st.j st.there is-shape in
        let many = rows-many st.j st.there kind in
        let least = x.some in
        let num = ap nat_abs x.is-num in
        record {
          k = st.j;
          there = st.there;
          alike = y;
          many = ap nat_abs (sym (y.same 2 (rw kind))) ∙ many;
          stored = ap (stored_of text) (sym (alike-id y)) ∙ back-stored v (rows-once v) st.j st.there is-shape;
          within = x.within;
          some = omega arith;
          few = x.short;
        }

    pub shape-expands : (j : ℕ) → j < m → is_shape_row laid j ≡ true → Expands target text laid j
    shape-expands j h s = let f = shape-from j h s in rw (f.many, f.stored) (expands-back target (samples_at rows f.k samples) f.within f.some f.few)

    -- ---- the samples that a table holds of it
    module _ (size' : ℕ) (table : List ℤ) (held : SamplesHeld target text laid m size' table) where
      shape-samples : (j : ℕ) → j < m → is_shape_row laid j ≡ true → (f : ShapeFrom laid j) → samples_at laid j table ≡ samples_at rows f.k samples
      unfolding samples_at num_at place_at
      shape-samples j h s f = held.part j h s ∙ (rw (f.many, f.stored) (samples-back target (samples_at rows f.k samples) f.within f.some f.few))

      pub text-samples : SameSamples source count v.keeps.samples laid m table
      unfolding is_shape_row
      text-samples =
          record {
            same = λ k j h l i y.
                let s : is_shape_row laid j ≡ true = rw (sym (alike-kind y) ∙ i) (same_z-refl (pos shape_kind)) in
                let f = shape-from j l s in
                let p = alike-once (rows-once v) h f.there (alike_then (alike-back (source-alike k h)) y) f.alike in
                source-samples k h i ∙ ap (λ (z : ℕ). samples_at rows z samples) p ∙ sym (shape-samples j l s f);
          }
