-- An accepted file that is not UNSAYABLE has what reading back a restated text asks for, but for its definitions. Assumes nothing.
use Prim.Native.Nat.{ℕ, zero, suc, ◌+◌, ◌^◌, ◌≤◌, ◌<◌}
use mathlib.Core.Bool.{true, false}
use mathlib.Core.List.{List, [], ◌∷◌}
use mathlib.Core.Path.{◌≡◌, refl, ap}
use native.Mathlib.Omega.{arith}
use borrow.Author.Tests.{le-leb}
use lib.IntN.{ℤ, pos, nat_abs}
use lib.ListN.{length, take, drop, length-take}
use lib.Seq.{get_or-drop}
use Rattle.signed.proofs.Sign.{same_z-true}
use Rattle.numeral.specs.Integer.{largest_id}
use Rattle.shape.specs.declared.Edition.{Edition}
use Rattle.shape_text.specs.Written.{all_within}
use Rattle.columns.specs.Columns.{form_number, shape_kind}
use Rattle.columns.specs.declared.Form.{Form}
use Rattle.columns.specs.declared.Form.TheVariants.{Block, Rf, Gradient, Trap, Adc}
use Rattle.tables.specs.Tables.{number_at, samples_at}
use Rattle.file.specs.Rows.{rows_of}
use Rattle.exact_lengths.specs.Tables.{SamplesIn}
use Rattle.reader.specs.Reading.{rows_out, samples_out}
use Rattle.needs.specs.Needs.{site_rasters}
use Rattle.sources.specs.Sources.{own_rasters}
use Rattle.sayable.specs.Sayable.{is_kind, unsayable}
use Rattle.said.specs.Said.{is_of_form}
use Rattle.demands.specs.Keeping.{SoundSite, Keeps}
use Rattle.restated_laws.proofs.Rows.{rows-small}
use Rattle.restated_laws.proofs.Ranging.{is_plain, block-range}
use Rattle.restated_laws.proofs.ShapeBack.{ShapeIn}
use Rattle.restated_laws.proofs.DefinedBack.{AllDefining}
use Rattle.restated_laws.proofs.DefinedSection.{said_definitions}
use Rattle.restated_laws.proofs.TextBack.{AllInRange, Readable}
use Rattle.restated_source.proofs.Held.{plain-said}
use Rattle.restated_source.proofs.Forms.{FormRow, form-row, shape_row}
use Rattle.restated_source.proofs.Listing.{SomeListed, listed-from}
use Rattle.restated_source.proofs.Source.{rows_few, source-rows, source-holds, source-long, source-samples}
use Rattle.restated_source.proofs.Saying.{can-say, duration-most}

-- ---- Samples within the limits, and a part of them
all-within : (zs : List ℤ) → SamplesIn zs → all_within zs ≡ true
unfolding all_within
all-within [] h = refl
all-within (z ∷ zs) h = rw (le-leb (nat_abs z) (10 ^ 17) (h 0)) (all-within zs (λ i. h (suc i)))

take_in : (n : ℕ) (zs : List ℤ) → SamplesIn zs → SamplesIn (take n zs)
take_in zero zs h i = omega arith
take_in (suc n) [] h i = h i
take_in (suc n) (z ∷ zs) h zero = h 0
take_in (suc n) (z ∷ zs) h (suc i) = take_in n zs (λ j. h (suc j)) i

drop-in : (n : ℕ) (zs : List ℤ) → SamplesIn zs → SamplesIn (drop n zs)
drop-in n zs h i = rw (get_or-drop n zs i (pos 0)) (h (n + i))

part_in : (rows : List ℤ) (k : ℕ) (samples : List ℤ) → SamplesIn samples → all_within (samples_at rows k samples) ≡ true
unfolding samples_at
part_in rows k samples h = all-within _ (take_in (nat_abs (number_at rows k 2)) _ (drop-in (nat_abs (number_at rows k 3)) samples h))

part-few : (rows : List ℤ) (k : ℕ) (samples : List ℤ) (num : ℕ) → number_at rows k 2 ≡ pos num → length (samples_at rows k samples) ≤ num
unfolding samples_at
part-few rows k samples num e =
    let l = length-take (nat_abs (number_at rows k 2)) (drop (nat_abs (number_at rows k 3)) samples) in
    let m : nat_abs (number_at rows k 2) ≡ num = ap nat_abs e in
    omega arith

module _ (target : Edition) (file site : List ℕ) (room size : ℕ) (sound : SoundSite site) (keeps : Keeps file site room size) where
  abbrev rows : List ℤ
  rows = rows_out file site room size

  abbrev count : ℕ
  count = length (rows_of file)

  abbrev raster : ℕ
  raster = (own_rasters file site).block.0

  few : count ≤ largest_id
  few = let a = rows_few file in let b = keeps.small in omega arith

  -- ---- Rows of a form
  kind-is : (k kind : ℕ) → is_kind rows k (pos kind) ≡ true → number_at rows k 0 ≡ pos kind
  unfolding is_kind
  kind-is k kind i = same_z-true (number_at rows k 0) (pos kind) i

  form-at : (form : Form) (k : ℕ) → k < count → is_of_form form rows k ≡ true → FormRow keeps.end.edition rows k form
  form-at form k h i =
      form-row keeps.end.edition rows k form (source-rows file site room size keeps k h) (source-holds file site room size keeps sound k h) (kind-is k (form_number form) i)

  plain_in : (form : Form) → is_plain form ≡ true → AllInRange target raster rows count form
  plain_in form p k h i = let x = form-at form k h i in plain-said keeps.end.edition target rows k form p x.vs x.range x.is raster count

  shapes-in : (k : ℕ) → k < count → is_kind rows k (pos shape_kind) ≡ true → ShapeIn rows (samples_out file site room size) k
  shapes-in k h i =
      let x = shape_row keeps.end.edition rows k (source-rows file site room size keeps k h) (source-holds file site room size keeps sound k h) (kind-is k shape_kind i) in
      let l = part-few rows k (samples_out file site room size) x.num x.is-num in
      let m = x.few in
      record {
        id = x.id;
        num = x.num;
        is-id = x.is-id;
        is-num = x.is-num;
        least = x.least;
        most = x.most;
        some = x.some;
        few = x.few;
        within = part_in rows k (samples_out file site room size) (source-samples file site room size keeps sound);
        short = omega arith;
      }

  module _ (said : unsayable target (own_rasters file site) (site_rasters site) rows count ≡ false) where
    blocks-in : AllInRange target raster rows count Block
    blocks-in k h i =
        let x = form-at Block k h i in
        block-range keeps.end.edition target raster rows count k x.vs x.range (unfold is_kind in i)
        (λ c (l : c < 8). x.is.own c (omega arith) (λ q (n : c ≡ 8). omega arith))
        (duration-most target (own_rasters file site) (site_rasters site) rows count said few k h i)

    pub readable : AllDefining (said_definitions target file site) → Readable target raster file site rows count (samples_out file site room size)
    readable defined =
        record {
          small = rows-small file site room size;
          defined = defined;
          blocks = blocks-in;
          rf = plain_in Rf refl;
          gradients = plain_in Gradient refl;
          traps = plain_in Trap refl;
          adc = plain_in Adc refl;
          few = few;
          long = source-long file site room size keeps sound;
          shapes = shapes-in;
        }

    -- ---- and its rows of EXTENSIONS can be listed from any line on
    pub source-listed : (n : ℕ) → SomeListed target rows count n
    source-listed = listed-from target file rows (source-holds file site room size keeps sound) (can-say target (own_rasters file site) (site_rasters site) rows count said)
