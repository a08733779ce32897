-- An edition's rules over tables, sentence by sentence: n rows, and the samples of their shapes. Nothing here says in which order they are asked.
use Rattle.std.specs.Prelude.{ℕ, suc, ◌%◌, ◌^◌, ◌≤◌, ◌<◌, true, List, ◌≡◌, ℤ, pos, nat_abs, length, get_or}
use Rattle.std.specs.Int.Signed.{lt_z, non_neg}
use Rattle.unit.specs.declared.Rasters.{Rasters}
use Rattle.shape.specs.declared.Edition.{Edition}
use Rattle.shape.specs.declared.Edition.TheVariants.{V14}
use Rattle.columns.specs.Columns.{form_number}
use Rattle.columns.specs.Rows.{row_width}
use Rattle.columns.specs.declared.Form.TheVariants.{Block, Rf, Gradient, Trap, Adc, Entry}
use Rattle.tables.specs.Tables.{number_at, OnlyRow, samples_of, one}
use Rattle.chains.specs.Chains.{next_entry}
use Rattle.references.specs.References.{ref_at}
use Rattle.lengths.specs.Lengths.{count_at, micros_at}
use Rattle.blocks.specs.Blocks.{number_length, block_length}

-- ---- REFERENCE: number c of row k is a checked reference: it refers to a class, and is not 0
pub record Checked (e : Edition) (rows : List ℤ) (n k c : ℕ) : Type 0 where
  pub refers : ref_at e rows n k c ≡ pos 0 → ⊥
  pub nonzero : number_at rows k c ≡ pos 0 → ⊥

-- "each checked reference meets exactly one row"
pub record MeetsOne (e : Edition) (rows : List ℤ) (n k c : ℕ) : Type 0 where
  pub row : ℕ
  pub only : OnlyRow rows n (ref_at e rows n k c) (number_at rows k c) row

-- ---- LOOP: the chain from entry k, itself counted, has at most so many entries
pub data Chain (rows : List ℤ) (n : ℕ) : ℕ → ℕ → Type 0 where
  last_entry : {most k : ℕ} → n ≤ next_entry rows n k → Chain rows n (suc most) k
  more-entries : {most k : ℕ} → next_entry rows n k < n → Chain rows n most (next_entry rows n k) → Chain rows n (suc most) k

-- ---- USE: "gradient and magnitude samples lie in -1 to 1"
abbrev pub InUnit : List ℤ → Type 0
InUnit zs = (i : ℕ) → i < length zs → nat_abs (get_or zs i (pos 0)) ≤ one

-- "a time shape has the amplitude's count, whole, nonnegative, strictly rising"
pub record Times (count : ℕ) (zs : List ℤ) : Type 0 where
  pub many : length zs ≡ count
  pub whole : (i : ℕ) → i < length zs → nat_abs (get_or zs i (pos 0)) % one ≡ 0
  pub nonnegative : (i : ℕ) → i < length zs → non_neg (get_or zs i (pos 0)) ≡ true
  pub rising : (i : ℕ) → suc i < length zs → lt_z (get_or zs i (pos 0)) (get_or zs (suc i) (pos 0)) ≡ true

-- an amplitude, number 4 of RF and gradient, with its time shape, number c, if that is not 0
pub record Shaped (rows : List ℤ) (n : ℕ) (samples : List ℤ) (k c : ℕ) : Type 0 where
  pub amplitude : InUnit (samples_of rows n samples (number_at rows k 4))
  pub times : (number_at rows k c ≡ pos 0 → ⊥) → Times (length (samples_of rows n samples (number_at rows k 4))) (samples_of rows n samples (number_at rows k c))

-- "RF magnitude and phase have equal counts"
pub record Fits (rows : List ℤ) (n : ℕ) (samples : List ℤ) (k : ℕ) : Type 0 where
  pub counts : number_at rows k 0 ≡ pos (form_number Rf) → length (samples_of rows n samples (number_at rows k 4)) ≡ length (samples_of rows n samples (number_at rows k 5))
  pub rf : number_at rows k 0 ≡ pos (form_number Rf) → Shaped rows n samples k 6
  pub gradient : number_at rows k 0 ≡ pos (form_number Gradient) → Shaped rows n samples k 5

-- ---- ALIGN: a time in ns is a multiple of a raster
abbrev pub Multiple : ℕ → ℕ → Type 0
Multiple raster ns = ns % raster ≡ 0

-- "gradient delay, rise, flat and fall are multiples of the gradient raster, RF delay of the RF raster, dwell of the ADC raster"
pub record Aligned (q : Rasters) (rows : List ℤ) (k : ℕ) : Type 0 where
  pub rf : number_at rows k 0 ≡ pos (form_number Rf) → Multiple q.rf.0 (micros_at rows k 7)
  pub gradient : number_at rows k 0 ≡ pos (form_number Gradient) → Multiple q.gradient.0 (micros_at rows k 6)
  pub trap : number_at rows k 0 ≡ pos (form_number Trap) → (c : ℕ) → 4 ≤ c → c ≤ 7 → Multiple q.gradient.0 (micros_at rows k c)
  pub adc : number_at rows k 0 ≡ pos (form_number Adc) → Multiple q.adc.0 (count_at rows k 3)

-- ---- All rules over n rows and their samples
pub record Follows (e : Edition) (q : Rasters) (rows : List ℤ) (n : ℕ) (samples : List ℤ) : Type 0 where
  pub references : (k c : ℕ) → k < n → c < row_width → Checked e rows n k c → MeetsOne e rows n k c
  pub chains : (k : ℕ) → k < n → number_at rows k 0 ≡ pos (form_number Entry) → Chain rows n 256 k
  pub uses : (k : ℕ) → k < n → Fits rows n samples k
  pub aligned : e ≡ V14 → (k : ℕ) → k < n → Aligned q rows k
  -- "LONG: a block over 10^12 ns"
  pub short : (k : ℕ) → k < n → number_at rows k 0 ≡ pos (form_number Block) → block_length e q rows n samples k ≤ 10 ^ 12
  -- "no 1.4 event outlasts its block": of the block's numbers 2 to 8, those that refer to something
  pub lasting : e ≡ V14 → (k c : ℕ) → k < n → number_at rows k 0 ≡ pos (form_number Block) → 2 ≤ c → c ≤ 8
      → number_length e q rows n samples k c ≤ block_length e q rows n samples k
