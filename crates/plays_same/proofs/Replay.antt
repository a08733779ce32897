-- A restated text keeps to the target's rules, and so is accepted; and it plays the same. Assumes nothing.
use Prim.Native.Nat.{ℕ, ◌/◌, ◌^◌, ◌≤◌, ◌<◌}
use mathlib.Core.Bool.{true, false}
use mathlib.Core.List.{List}
use mathlib.Core.Path.{◌≡◌, sym, ap, subst, ◌∙◌}
use native.Mathlib.Omega.{arith}
use lib.IntN.{ℤ, pos}
use lib.ListN.{length, get_or}
use Rattle.signed.specs.Signed.{same_z}
use Rattle.unit.specs.declared.Rasters.{Rasters}
use Rattle.shape.specs.declared.Edition.{Edition}
use Rattle.shape.specs.declared.Edition.TheVariants.{V14}
use Rattle.columns.specs.Columns.{form_number}
use Rattle.columns.specs.Rows.{row_width}
use Rattle.columns.specs.declared.Form.TheVariants.{Block}
use Rattle.tables.specs.Tables.{number_at}
use Rattle.file.specs.Rows.{rows_of}
use Rattle.file_tables.specs.Tables.{cells_of}
use Rattle.file_tables.proofs.Laid.{cells-twelve}
use Rattle.file_tables.proofs.Whole.{rows-twelve, rows-held}
use Rattle.file_laws.proofs.Stacking.{rows-stacked}
use Rattle.rasters.specs.Rasters.{rasters_of}
use Rattle.needs.specs.Needs.{site_rasters}
use Rattle.events.specs.Align.{misaligned_at}
use Rattle.sampling.specs.Sampling.{is_shape_row, first_failing}
use Rattle.reader.specs.Reading.{zeros, rows_laid, samples_laid, rows_out}
use Rattle.sources.specs.Sources.{own_rasters}
use Rattle.demands.specs.Rules.{Aligned, Follows}
use Rattle.demands.specs.Keeping.{HasBlock, sample_sum, RastersGood, Expands, SamplesHeld, Keeps}
use Rattle.demands.specs.Refusing.{text_in}
use Rattle.demands.proofs.Lines.{verdict-runs}
use Rattle.demands.proofs.Ruling.{aligned-of}
use Rattle.demands.proofs.Samples.{stacked-sum, laid-held}
use Rattle.demands.proofs.Exactly.{apart, of-shapes}
use Rattle.arranged.proofs.Lookup.{alike-kind}
use Rattle.arranged.proofs.Turning.{arranged-then}
use Rattle.arranged.proofs.Following.{Moved, moved-follows}
use Rattle.restated_source.proofs.Source.{source-verdict, source-rows}
use Rattle.restated_source.proofs.Saying.{on-time}
use Rattle.restated_rows.proofs.Source.{one-row}
use Rattle.plays_same.proofs.Tables.{room_fits, laid-number, full-same}
use Rattle.plays_same.proofs.Facts.{kind-some, misaligned-same}
use Rattle.plays_same.proofs.Back.{Sayable, own-rasters, good-rasters, end_of, back-verdict, back-edition, back-rasters, back-defined}
use Rattle.plays_same.proofs.Arrangement.{text-once, text-block, text-arranged}
use Rattle.plays_same.proofs.Shapes.{source-alike, shape-expands, text-samples}
use Rattle.plays_same.proofs.Lasting.{text-lasts}

-- ---- The kind of a row, whose twelve numbers are a table of one row
cells-number : (file : List ℕ) (k : ℕ) → k < length (rows_of file) → number_at (cells_of (rows_of file) k) 0 0 ≡ get_or (cells_of (rows_of file) k) 0 (pos 0)
cells-number file k h = sym (one-row (cells_of (rows_of file) k) (cells-twelve (rows-twelve file) k h) 0 (omega arith))

-- ---- A text that keeps to the rules of an edition
pub record KeepsBy (target : Edition) (text site : List ℕ) (room size : ℕ) : Type 0 where
  pub keeps : Keeps text site room size
  pub edition : keeps.end.edition ≡ target

module _ {target : Edition} {file site : List ℕ} {room size : ℕ} (v : Sayable target file site room size) where
  abbrev count : ℕ
  count = length (rows_of file)

  abbrev text : List ℕ
  text = text_in target file site room size count

  abbrev source : List ℤ
  source = rows_laid file (zeros room)

  abbrev e : Edition
  e = v.keeps.end.edition

  abbrev q : Rasters
  q = rasters_of e file site

  abbrev q' : Rasters
  q' = rasters_of target text site

  -- ---- ALIGN of the source by the target's rules
  source-aligned : target ≡ V14 → (k : ℕ) → k < count → Aligned q source k
  source-aligned t k h =
      let good = subst (RastersGood target) (own-rasters v) (good-rasters v) in
      let on : target ≡ V14 = t in
      aligned-of q source k e (rows-held file v.keeps.end (zeros room) (source-verdict file site room size v.keeps) (room_fits file room v.keeps.rows_fit) k h) good.gradient good.rf (good.adc t)
      (misaligned-same q (source-alike v k h)
      ∙ subst (λ (r : Rasters). misaligned_at r (rows_out file site room size) k ≡ false) (own-rasters v) (on-time target (own_rasters file site) (site_rasters site) (rows_out file site room size) count v.sayable t k h))

  -- ---- All rules
  module _ (room' size' : ℕ) (fits : length (rows_of text) ≤ room' / row_width) where
    abbrev laid : List ℤ
    laid = rows_laid text (zeros room')

    abbrev m : ℕ
    m = length (rows_of text)

    pub text-moved : (table : List ℤ) → SamplesHeld target text laid m size' table → Moved e target q q' source count v.keeps.samples laid m table
    text-moved table held =
        record {
          arranged = arranged-then (full-same file room v.keeps.rows_fit site size v.sound v.keeps) (text-arranged v room' fits);
          samples = text-samples v room' fits size' table held;
          gradient = ap (λ (r : Rasters). r.gradient.0) (sym (back-rasters v));
          rf = ap (λ (r : Rasters). r.rf.0) (sym (back-rasters v));
          adc = λ t. ap (λ (r : Rasters). r.adc.0) (sym (back-rasters v));
          follows = v.keeps.rules;
          known = λ k h i. kind-some (source-rows file site room size v.keeps k h) (sym (laid-number file room v.keeps.rows_fit k 0 h (omega arith)) ∙ i);
          lasts = λ k j h l i y. text-lasts v room' fits k j h l i y;
          aligned = source-aligned;
        }

    -- ---- The text keeps to the target's rules
    module _ (small : length text ≤ 2 ^ 24) (room-left : sample_sum (rows_of text) ≤ size') where
      samples-fit : (end_of v).samples ≤ size'
      samples-fit = let c = stacked-sum (rows-stacked text (end_of v) (back-verdict v) small) in omega arith

      expands : (j : ℕ) → j < m → is_shape_row laid j ≡ true → Expands target text laid j
      expands = shape-expands v room' fits

      -- the same of the edition in which the text ends
      at-end : (P : Edition → Type 0) → P target → P (end_of v).edition
      at-end P x = subst P (sym (back-edition v)) x

      none-fails : m ≤ first_failing target text laid (length (zeros size')) m
      none-fails =
          subst (λ (g : Edition). m ≤ first_failing g text laid (length (zeros size')) m) (back-edition v)
          (of-shapes text site room' size' (end_of v) (back-verdict v) small fits samples-fit (at-end (λ g. (j : ℕ) → j < m → is_shape_row laid j ≡ true → Expands g text laid j) expands))

      abbrev table : List ℤ
      table = samples_laid target text laid m (zeros size')

      text-held : SamplesHeld target text laid m size' table
      text-held = laid-held target text laid m size' (apart text site room' size' (end_of v) (back-verdict v) small fits samples-fit) none-fails expands

      text-follows : Follows target q' laid m table
      text-follows = moved-follows (text-moved table text-held)

      source-block : HasBlock (rows_of file) → HasBlock (rows_of text)
      source-block b =
          text-block v b.k b.there
          (subst (λ (z : ℤ). same_z z (pos (form_number Block)) ≡ true)
          (cells-number file b.k b.there ∙ sym (laid-number file room v.keeps.rows_fit b.k 0 b.there (omega arith)) ∙ alike-kind (source-alike v b.k b.there))
          b.block)

      text-keeps : Keeps text site room' size'
      text-keeps =
          record {
            small = small;
            end = end_of v;
            lines = verdict-runs text (end_of v) (back-verdict v);
            block = source-block v.keeps.block;
            definitions = λ t. back-defined v (sym (back-edition v) ∙ t);
            rows_fit = fits;
            samples-fit = room-left;
            once = text-once v;
            rasters = at-end (λ g. RastersGood g (rasters_of g text site)) (subst (RastersGood target) (own-rasters v ∙ sym (back-rasters v)) (good-rasters v));
            shapes = at-end (λ g. (j : ℕ) → j < m → is_shape_row laid j ≡ true → Expands g text laid j) expands;
            samples = table;
            held = at-end (λ g. SamplesHeld g text laid m size' table) text-held;
            rules = at-end (λ g. Follows g (rasters_of g text site) laid m table) text-follows;
          }

      pub text-keeps-by : KeepsBy target text site room' size'
      unfolding text-keeps
      text-keeps-by = record { keeps = text-keeps; edition = back-edition v }
