-- What a file plays. "'Plays the same' compares blocks with their resolved events, expanded samples, RF and gradient rasters, durations and extension
-- rows, apart from event IDs and delay rows." Event IDs, shape IDs, delay rows, the order of sections and places in tables do not appear here.
use Rattle.std.specs.Prelude.{ℕ, zero, suc, cond, List, [], ◌∷◌, ltb, ℤ, pos}
use Rattle.signed.specs.Signed.{same_z}
use Rattle.numeral.specs.declared.Decimal.{Decimal}
use Rattle.unit.specs.declared.Rasters.{Rasters}
use Rattle.columns.specs.Columns.{form_number, label_kind}
use Rattle.columns.specs.declared.Form.TheVariants.{Trap, Trigger}
use Rattle.tables.specs.Tables.{number_at, class_number, met_row, samples_of}
use Rattle.tables.specs.declared.Class.TheVariants.{Rf as RfClass, Gradient as GradientClass, Adc as AdcClass, Entry as EntryClass}
use Rattle.chains.specs.Chains.{next_entry}
use Rattle.references.specs.References.{extension_ref}
use Rattle.blocks.specs.Blocks.{is_block}

-- ---- An event, or none
pub data Event (A : Type 0) : Type 0 where
  none : Event A
  one : A → Event A

-- what row k plays, unless k is the row behind n rows, which is none
unfoldable pub played_at : {A : Type 0} → (ℕ → A) → ℕ → ℕ → Event A
played_at plays n k = cond (ltb k n) (one (plays k)) none

-- ---- A decimal of a row, as it is kept: two numbers from number c on
abbrev pub decimal_at : List ℤ → ℕ → ℕ → Decimal
decimal_at rows k c = record { mantissa = number_at rows k c; exponent = number_at rows k (suc c) }

-- ---- When samples are played: one step of the raster after another, or at the times of a shape
pub data Timing : Type 0 where
  regular : Timing
  timed : List ℤ → Timing

unfoldable pub timing_of : List ℤ → ℕ → List ℤ → ℤ → Timing
timing_of rows n samples id = cond (same_z id (pos 0)) regular (timed (samples_of rows n samples id))

-- ---- "RF id, amp, mag, phase shape, time, delay, freq, phase"
pub record Rf : Type 0 where
  pub amplitude : Decimal
  pub magnitude : List ℤ
  pub phases : List ℤ
  pub timing : Timing
  pub delay : ℤ
  pub frequency : Decimal
  pub phase : Decimal

unfoldable pub rf_at : List ℤ → ℕ → List ℤ → ℕ → Rf
rf_at rows n samples k =
    record {
      amplitude = decimal_at rows k 2;
      magnitude = samples_of rows n samples (number_at rows k 4);
      phases = samples_of rows n samples (number_at rows k 5);
      timing = timing_of rows n samples (number_at rows k 6);
      delay = number_at rows k 7;
      frequency = decimal_at rows k 8;
      phase = decimal_at rows k 10;
    }

-- ---- "GRADIENTS id, amp, shape, time, delay. TRAP id, amp, rise, flat, fall, delay"
pub data Gradient : Type 0 where
  arbitrary : (amplitude : Decimal) (values : List ℤ) (timing : Timing) (delay : ℤ) → Gradient
  trapezoid : (amplitude : Decimal) (rise flat fall delay : ℤ) → Gradient

unfoldable pub gradient_at : List ℤ → ℕ → List ℤ → ℕ → Gradient
gradient_at rows n samples k =
    cond (same_z (number_at rows k 0) (pos (form_number Trap)))
    (trapezoid (decimal_at rows k 2) (number_at rows k 4) (number_at rows k 5) (number_at rows k 6) (number_at rows k 7))
    (arbitrary (decimal_at rows k 2) (samples_of rows n samples (number_at rows k 4)) (timing_of rows n samples (number_at rows k 5)) (number_at rows k 6))

-- ---- "ADC id, num, dwell, delay, freq, phase"
pub record Adc : Type 0 where
  pub count : ℤ
  pub dwell : ℤ
  pub delay : ℤ
  pub frequency : Decimal
  pub phase : Decimal

unfoldable pub adc_at : List ℤ → ℕ → Adc
adc_at rows k =
    record { count = number_at rows k 2; dwell = number_at rows k 3; delay = number_at rows k 4; frequency = decimal_at rows k 5; phase = decimal_at rows k 7 }

-- ---- "TRIGGERS: id, type, channel, delay, duration"; "10 label (id, 0 set or 1 increment, value, label)"; a reference to an unknown extension, which
-- is unchecked, plays nothing that is known
pub data Extension : Type 0 where
  trigger : (type channel delay duration : ℤ) → Extension
  label : (increment value which : ℤ) → Extension
  unknown : Extension

unfoldable pub extension_of : List ℤ → ℕ → Extension
extension_of rows k =
    cond (same_z (number_at rows k 0) (pos (form_number Trigger))) (trigger (number_at rows k 2) (number_at rows k 3) (number_at rows k 4) (number_at rows k 5))
    (cond (same_z (number_at rows k 0) (pos label_kind)) (label (number_at rows k 2) (number_at rows k 3) (number_at rows k 4)) unknown)

-- the row that entry k refers to
unfoldable pub extension_at : List ℤ → ℕ → ℕ → Extension
extension_at rows n k = extension_of rows (met_row rows n (extension_ref rows n (number_at rows k 2)) (number_at rows k 3))

-- "extension rows" in chain order, from entry k on, with so many entries left to count; row n is none
unfoldable pub chain_from : List ℤ → ℕ → ℕ → ℕ → List Extension
chain_from rows n zero k = []
chain_from rows n (suc left) k = cond (ltb k n) (extension_at rows n k ∷ chain_from rows n left (next_entry rows n k)) []

-- ---- "BLOCKS id, duration, rf, gx, gy, gz, adc, ext", its duration in ns
pub record Block : Type 0 where
  pub id : ℤ
  pub ns : ℤ
  pub rf : Event Rf
  pub gx : Event Gradient
  pub gy : Event Gradient
  pub gz : Event Gradient
  pub adc : Event Adc
  pub extensions : List Extension

-- what reference c of row k meets
abbrev pub met_by : List ℤ → ℕ → ℕ → ℕ → ℕ → ℕ
met_by rows n class k c = met_row rows n (pos class) (number_at rows k c)

unfoldable pub block_at : List ℤ → ℕ → List ℤ → ℕ → Block
block_at rows n samples k =
    record {
      id = number_at rows k 1;
      ns = number_at rows k 9;
      rf = played_at (rf_at rows n samples) n (met_by rows n (class_number RfClass) k 3);
      gx = played_at (gradient_at rows n samples) n (met_by rows n (class_number GradientClass) k 4);
      gy = played_at (gradient_at rows n samples) n (met_by rows n (class_number GradientClass) k 5);
      gz = played_at (gradient_at rows n samples) n (met_by rows n (class_number GradientClass) k 6);
      adc = played_at (adc_at rows) n (met_by rows n (class_number AdcClass) k 7);
      extensions = chain_from rows n 256 (met_by rows n (class_number EntryClass) k 8);
    }

-- ---- The blocks of m rows from row k on, in order
unfoldable pub blocks_from : List ℤ → ℕ → List ℤ → ℕ → ℕ → List Block
blocks_from rows n samples k zero = []
blocks_from rows n samples k (suc m) = cond (is_block rows k) (block_at rows n samples k ∷ blocks_from rows n samples (suc k) m) (blocks_from rows n samples (suc k) m)

-- ---- What n rows and their samples play, with the two rasters that events are played on; "plays the same" is equality of these
pub record Played : Type 0 where
  pub blocks : List Block
  pub gradient : ℕ
  pub rf : ℕ

unfoldable pub played_of : Rasters → List ℤ → ℕ → List ℤ → Played
played_of q rows n samples = record { blocks = blocks_from rows n samples 0 n; gradient = q.gradient.0; rf = q.rf.0 }
