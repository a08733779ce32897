-- "A file accepted with one site's definitions, restated to a target edition and read by the target's rules alone with those definitions and enough
-- table room, is accepted and plays the same." Assumes nothing.
use Prim.Native.Nat.{ℕ, ◌*◌, ◌/◌, ◌^◌, ◌≤◌, ◌<◌}
use mathlib.Core.Bool.{true}
use mathlib.Core.List.{List}
use mathlib.Core.Path.{◌≡◌, refl, sym, ap, subst, ◌∙◌}
use native.Mathlib.Omega.{arith}
use lib.IntN.{ℤ, pos}
use lib.ListN.{length}
use Rattle.unit.specs.declared.Rasters.{Rasters}
use Rattle.shape.specs.declared.Edition.{Edition}
use Rattle.shape.specs.declared.Edition.TheVariants.{V13, V14}
use Rattle.columns.specs.Columns.{form_number}
use Rattle.columns.specs.Rows.{row_width}
use Rattle.columns.specs.declared.Form.TheVariants.{Block}
use Rattle.tables.specs.Tables.{number_at}
use Rattle.file.specs.Rows.{rows_of, scanned_of}
use Rattle.file_laws.proofs.Ending.{verdict-scanned}
use Rattle.rasters.specs.Rasters.{rasters_of}
use Rattle.blocks.specs.Blocks.{block_length}
use Rattle.answers.specs.Outcome.{Accepted}
use Rattle.reader.specs.Reading.{zeros, rows_laid, rows_out, samples_out}
use Rattle.sources.specs.Sources.{edition_in, own_rasters}
use Rattle.demands.specs.Keeping.{sample_sum, SamplesHeld, Keeps}
use Rattle.demands.specs.Refusing.{text_in}
use Rattle.demands.specs.Replaying.{is_edition, read_by, rows_room, samples_room, EnoughRoom, played_in, PlaysSame}
use Rattle.demands.proofs.Exactly.{keeps-accepted}
use Rattle.arranged.specs.Alike.{Alike, Arranged}
use Rattle.arranged.proofs.Lookup.{alike-kind, alike-back, SameSamples}
use Rattle.arranged.proofs.Turning.{alike_then, arranged-then, order-then}
use Rattle.arranged.proofs.Following.{moved_length}
use Rattle.arranged.proofs.Playing.{played-same}
use Rattle.plays_same.proofs.Tables.{full-alike, full-same, full-length, full-samples, full-past}
use Rattle.plays_same.proofs.Back.{Sayable, own-rasters, end_of, back-verdict, back-edition, back-rasters}
use Rattle.plays_same.proofs.Arrangement.{text-arranged, text-order}
use Rattle.plays_same.proofs.Shapes.{source-alike, source-samples, text-samples}
use Rattle.plays_same.proofs.Replay.{KeepsBy, text-moved, text-keeps-by}

edition-self : (e : Edition) → is_edition e e ≡ true
unfolding is_edition
edition-self V13 = refl
edition-self V14 = refl

module _ {target : Edition} {file site : List ℕ} {room size : ℕ} (v : Sayable target file site room size) where
  abbrev rows : List ℤ
  rows = rows_out file site room size

  abbrev samples : List ℤ
  samples = samples_out file site room size

  abbrev count : ℕ
  count = length (rows_of file)

  abbrev text : List ℕ
  text = text_in target file site room size count

  abbrev m : ℕ
  m = length (rows_of text)

  -- ---- The edition and the rasters of the text
  text-edition : edition_in (scanned_of text) ≡ target
  unfolding edition_in
  text-edition = (rw (verdict-scanned text (end_of v) (back-verdict v))) ∙ back-edition v

  text-rasters : own_rasters text site ≡ own_rasters file site
  unfolding own_rasters
  text-rasters = ap (λ (g : Edition). rasters_of g text site) text-edition ∙ back-rasters v ∙ sym (own-rasters v)

  module _ (small : length text ≤ 2 ^ 24) (room' size' : ℕ) (enough : EnoughRoom text room' size') where
    fits : m ≤ room' / row_width
    unfolding rows_room
    fits = let h : m * row_width ≤ room' = enough.rows in omega arith

    room-left : sample_sum (rows_of text) ≤ size'
    unfolding samples_room
    room-left = enough.samples

    abbrev laid : List ℤ
    laid = rows_laid text (zeros room')

    by-target : KeepsBy target text site room' size'
    by-target = text-keeps-by v room' size' fits small room-left

    abbrev keeps : Keeps text site room' size'
    keeps = by-target.keeps

    held : SamplesHeld target text laid m size' keeps.samples
    held = subst (λ (g : Edition). SamplesHeld g text laid m size' keeps.samples) by-target.edition keeps.held

    -- ---- It is accepted
    pub text-accepted : read_by target text site room' size' ≡ Accepted m (samples_room text)
    unfolding read_by samples_room
    text-accepted = rw (text-edition, edition-self target) (keeps-accepted text site room' size' v.sound keeps)

    -- ---- It plays the same
    abbrev full : List ℤ
    full = rows_out text site room' size'

    full-there : (j : ℕ) → j < m → Alike laid j full j
    full-there = full-alike text room' fits site size' v.sound keeps

    all-arranged : Arranged rows count full m
    all-arranged = arranged-then (text-arranged v room' fits) (full-same text room' fits site size' v.sound keeps)

    -- rows of the full tables, as they were laid
    as-laid : {k j : ℕ} → k < count → j < m → Alike rows k full j → Alike (rows_laid file (zeros room)) k laid j
    as-laid {k} {j} h l y = alike_then (source-alike v k h) (alike_then y (alike-back (full-there j l)))

    all-samples : SameSamples rows count samples full m (samples_out text site room' size')
    all-samples =
        record {
          same = λ k j h l i y.
              let a = alike-kind (source-alike v k h) ∙ i in
              let z = as-laid h l y in
              sym (source-samples v k h a)
              ∙ (text-samples v room' fits size' keeps.samples held).same k j h l a z
              ∙ full-samples text room' fits site size' v.sound keeps j l (sym (alike-kind z) ∙ a);
        }

    all-last : (k j : ℕ) → k < count → j < m → number_at rows k 0 ≡ pos (form_number Block) → Alike rows k full j → number_at rows k 9 ≡ number_at full j 9
    all-last k j h l i y =
        let a = alike-kind (source-alike v k h) ∙ i in
        let z = as-laid h l y in
        full-length file room v.keeps.rows_fit site size v.sound v.keeps k h a
        ∙ ap pos
        (sym (moved_length (text-moved v room' size' fits keeps.samples held) k j h l a z)
        ∙ ap (λ (g : Edition). block_length g (rasters_of g text site) laid m keeps.samples j) (sym by-target.edition))
        ∙ sym (full-length text room' fits site size' v.sound keeps j l (sym (alike-kind z) ∙ a))

    pub text-plays : played_in text site room' size' ≡ played_in file site room size
    unfolding played_in
    text-plays =
        sym
        (played-same all-arranged all-samples (full-past file room v.keeps.rows_fit site size v.sound v.keeps) (full-past text room' fits site size' v.sound keeps) all-last
        (order-then full-there (omega arith) (text-order v room' fits)) (own_rasters file site) (own_rasters text site) (ap (λ (r : Rasters). r.gradient.0) (sym text-rasters))
        (ap (λ (r : Rasters). r.rf.0) (sym text-rasters)))

  pub sayable-plays : length text ≤ 2 ^ 24 → PlaysSame target file site room size text
  sayable-plays small = record { accepted = text-accepted small; same = text-plays small }
