-- A restated text, read: where it ends, its rasters, its stored lines and its words. Assumes nothing.
use Prim.Native.Nat.{ℕ, ◌≤◌, ◌<◌}
use mathlib.Core.Bool.{true, false}
use mathlib.Core.List.{List}
use mathlib.Core.Path.{◌≡◌, sym, subst}
use lib.IntN.{ℤ, pos}
use lib.ListN.{length, get_or}
use Rattle.unit.specs.declared.Rasters.{Rasters}
use Rattle.shape.specs.declared.Edition.{Edition}
use Rattle.shape.specs.declared.Edition.TheVariants.{V14}
use Rattle.shape_text.specs.Written.{stored_text}
use Rattle.columns.specs.Columns.{shape_kind}
use Rattle.places.specs.declared.State.{State}
use Rattle.file.specs.Whole.{verdict_of, ended}
use Rattle.file.specs.Rows.{rows_of, scanned_of}
use Rattle.file_laws.proofs.Ending.{verdict-scanned}
use Rattle.definitions.specs.Definitions.{definitions_of}
use Rattle.rasters.specs.Rasters.{rasters_of}
use Rattle.needs.specs.Needs.{site_rasters}
use Rattle.stored.specs.Shapes.{stored_of}
use Rattle.duplicates.specs.Words.{words_of}
use Rattle.duplicates.specs.Again.{WordAgain}
use Rattle.tables.specs.Tables.{number_at, samples_at, NoneAgain}
use Rattle.sayable.specs.Sayable.{is_kind, unsayable}
use Rattle.reader.specs.Reading.{rows_out, samples_out}
use Rattle.sources.specs.Sources.{edition_in, own_rasters, lacks_rasters}
use Rattle.demands.specs.Keeping.{SoundSite, RastersGood, Keeps}
use Rattle.demands.specs.Refusing.{text_in}
use Rattle.demands.proofs.Exactly.{rows-hold}
use Rattle.restated_laws.proofs.DefinedBack.{AllDefining, numbered}
use Rattle.restated_laws.proofs.DefinedFound.{HasRasters, said-defining}
use Rattle.restated_laws.proofs.DefinedSection.{said_definitions}
use Rattle.restated_laws.proofs.TextBack.{Readable, delays_end}
use Rattle.restated_laws.proofs.WholeBack.{end_state, restated-ends, restated-definitions}
use Rattle.restated_source.proofs.Listing.{SomeListed}
use Rattle.restated_source.proofs.Source.{source-verdict}
use Rattle.restated_source.proofs.Readable.{readable, source-listed}
use Rattle.restated_shapes.proofs.Stored.{stored_back}
use Rattle.restated_shapes.proofs.Words.{words-once}
use Rattle.restated_shapes.proofs.Once.{keys-once, held-codes-once}
use Rattle.plays_same.proofs.Rasters.{rasters-back, target-rasters, said-some, rasters-said}
use Rattle.plays_same.proofs.Ending.{end-edition, end-defined}

-- ---- What restating knows of a source that it does not refuse
pub record Sayable (target : Edition) (file site : List ℕ) (room size : ℕ) : Type 0 where
  pub sound : SoundSite site
  pub keeps : Keeps file site room size
  pub rasters : lacks_rasters target file site ≡ false
  pub sayable : unsayable target (own_rasters file site) (site_rasters site) (rows_out file site room size) (length (rows_of file)) ≡ false

module _ {target : Edition} {file site : List ℕ} {room size : ℕ} (v : Sayable target file site room size) where
  abbrev rows : List ℤ
  rows = rows_out file site room size

  abbrev samples : List ℤ
  samples = samples_out file site room size

  abbrev count : ℕ
  count = length (rows_of file)

  abbrev e : Edition
  e = v.keeps.end.edition

  abbrev raster : ℕ
  raster = (own_rasters file site).block.0

  abbrev text : List ℕ
  text = text_in target file site room size count

  -- ---- Rasters
  pub own-rasters : own_rasters file site ≡ rasters_of e file site
  unfolding own_rasters edition_in
  own-rasters = rw (verdict-scanned file v.keeps.end (source-verdict file site room size v.keeps))

  pub good-rasters : RastersGood target (own_rasters file site)
  unfolding lacks_rasters
  good-rasters = target-rasters target (edition_in (scanned_of file)) (own_rasters file site) (site_rasters site) v.rasters

  has-rasters : target ≡ V14 → HasRasters file site
  has-rasters t = rasters-said file site e (subst (λ (g : Edition). RastersGood g (rasters_of e file site)) t (subst (RastersGood target) own-rasters good-rasters))

  all-defining : AllDefining (said_definitions target file site)
  all-defining = said-defining file site target has-rasters

  -- ---- The text reads back
  pub back-readable : Readable target raster file site rows count samples
  back-readable = readable target file site room size v.sound v.keeps v.sayable all-defining

  abbrev pub back-listed : SomeListed target rows count (delays_end target raster file site rows count samples)
  back-listed = source-listed target file site room size v.sound v.keeps v.sayable (delays_end target raster file site rows count samples)

  abbrev pub end_of : State
  end_of = end_state target raster file site rows count samples back-readable back-listed.listed

  pub back-verdict : verdict_of text ≡ ended end_of
  back-verdict = restated-ends target raster file site rows count samples back-readable back-listed.listed

  pub back-edition : end_of.edition ≡ target
  back-edition = end-edition target raster file site rows count samples back-readable back-listed.listed

  pub back-definitions : definitions_of text ≡ numbered 7 (said_definitions target file site)
  back-definitions = restated-definitions target raster file site rows count samples back-readable back-listed.listed

  pub back-rasters : rasters_of target text site ≡ rasters_of e file site
  back-rasters = rasters-back file site text e target back-definitions v.keeps.rasters

  pub back-defined : target ≡ V14 → get_or end_of.seen 2 false ≡ true
  back-defined t = end-defined target raster file site rows count samples back-readable back-listed.listed
      (subst (λ (g : Edition). 1 ≤ length (said_definitions g file site)) (sym t) (said-some file site (has-rasters t)))

  -- ---- Stored lines and words
  pub back-stored : NoneAgain rows count → (k : ℕ) → k < count → is_kind rows k (pos shape_kind) ≡ true → stored_of text (number_at rows k 1) ≡ stored_text target (samples_at rows k samples)
  back-stored once = stored_back target raster file site rows count samples back-readable back-listed.listed once

  pub back-words : (line : ℕ) → WordAgain (words_of text) line → ⊥
  back-words =
      words-once target raster file site rows count samples back-readable back-listed.listed (keys-once file v.keeps.once target site)
      (held-codes-once file v.keeps.once (rows-hold file site room size v.sound v.keeps))
