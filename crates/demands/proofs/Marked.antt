-- The paper's marked examples, as one list under one claim: the checker computes each from the definitions. Assumes nothing.
use Prim.Native.Nat.{ℕ}
use mathlib.Core.Bool.{Bool, true, false, cond, ◌&&◌}
use mathlib.Core.List.{List, [], ◌∷◌, ◌++◌}
use mathlib.Core.Path.{◌≡◌, refl}
use lib.IntN.{ℤ, pos, negsuc}
use lib.ListN.{replicate}
use Rattle.text.specs.Marks.{is_blank, mark_of, is_comment, is_control, any_control, breaks_line}
use Rattle.text.specs.Lines.{onto}
use Rattle.fields.specs.Fields.{ends_field, fields_of}
use Rattle.signed.specs.Signed.{same_z, is_negative, signed_of, within}
use Rattle.numeral.specs.Digits.{is_digit, all_digits, value_from, is_minus, sign_len}
use Rattle.numeral.specs.Integer.{in_range, signed_as}
use Rattle.decimals.specs.Decimal.{up_to, whole, fraction, digits, is_mantissa, mantissa_part, exponent_part, is_exponent, exponent_of, strip_in, strip_from, kept, in_limits, is_unsigned, kept_of, decimal_of, same_decimal}
use Rattle.numeral.specs.Worth.{whole_at, whole_of, nearest, round_at, rounded_of}
use Rattle.shape.specs.Stored.{number_item, fields_item, mark_item, item_of, is_sound, all_sound, with_item, values_in}
use Rattle.shape.specs.Samples.{sum_to, add_of, is_plain}
use Rattle.expanding.specs.Expand.{repeated, counted, fresh_of, then_sum, sums_of, plain_of, trace_of, samples_in, ends_well, expands_to, expansion_of}
use Rattle.shape.specs.declared.Edition.{Edition}
use Rattle.shape.specs.declared.Edition.TheVariants.{V13, V14}
use Rattle.unit.specs.declared.Rasters.{Rasters}
use Rattle.tables.specs.Tables.{first_such, number_at, class_of, class_at, is_row_of, first_row, met_row}
use Rattle.references.specs.References.{ref_of, ref_at}
use Rattle.lengths.specs.Lengths.{micros_at, trap_length, length_of, length_at}
use Rattle.blocks.specs.Blocks.{met_length, chain_length, reference_length, longest_of, number_length, longest_event, block_length, outlasts_at}

-- what stored lines come to: samples, or SHAPE
pub data Outcome : Type 0 where
  samples : List ℤ → Outcome
  shape : Outcome

pub outcome_of : Edition → ℕ → List (List ℕ) → Outcome
outcome_of edition num lines =
    cond (all_sound lines && expands_to num (expansion_of edition num (values_in lines))) (samples (samples_in (expansion_of edition num (values_in lines)))) shape

-- ---- Example 10: a trap of rise 10, flat 980 and fall 10 µs with a delay of 100 µs, in the block of a 1.4 file whose rasters are 10 µs
pub rasters : Rasters
rasters = record { gradient = record { 0 = 10000 }; rf = record { 0 = 10000 }; adc = record { 0 = 10000 }; block = record { 0 = 10000 } }

-- a block of so many steps with the trap on its first gradient, and the trap
pub block_and_trap : ℕ → List ℤ
block_and_trap duration =
    (pos 1 ∷ pos 1 ∷ pos duration ∷ pos 0 ∷ pos 2 ∷ pos 0 ∷ pos 0 ∷ pos 0 ∷ pos 0 ∷ pos 0 ∷ pos 0 ∷ pos 0 ∷ [])
    ++ (pos 4 ∷ pos 2 ∷ pos 1 ∷ pos 0 ∷ pos 10 ∷ pos 980 ∷ pos 10 ∷ pos 100 ∷ pos 0 ∷ pos 0 ∷ pos 0 ∷ pos 0 ∷ [])

abbrev fits : Bool
fits = false

abbrev outlasted : Bool
outlasted = true

-- ---- What an example says: stored lines come to an outcome; or the trap fits or outlasts a block of so many steps
pub data Example : Type 0 where
  expands : Edition → ℕ → List (List ℕ) → Outcome → Example
  trap_in : ℕ → Bool → Example

abbrev pub Holds : Example → Type 0
Holds (expands edition num stored outcome) = outcome_of edition num stored ≡ outcome
Holds (trap_in duration out) = outlasts_at rasters (block_and_trap duration) 2 [] 0 ≡ out

-- every example of a list is as it says
pub data Shown : List Example → Type 0 where
  all : Shown []
  and : {e : Example} {es : List Example} → Holds e → Shown es → Shown (e ∷ es)

pub marked : List Example
marked =
    -- 1. 0 0.1 0.15 0.25 0.5 0 0 4 -0.25 -0.25 2
    expands V13 15 ((48 ∷ []) ∷ (48 ∷ 46 ∷ 49 ∷ []) ∷ (48 ∷ 46 ∷ 49 ∷ 53 ∷ []) ∷ (48 ∷ 46 ∷ 50 ∷ 53 ∷ []) ∷ (48 ∷ 46 ∷ 53 ∷ []) ∷ (48 ∷ []) ∷ (48 ∷ []) ∷ (52 ∷ []) ∷ (45 ∷ 48 ∷ 46 ∷ 50 ∷ 53 ∷ []) ∷ (45 ∷ 48 ∷ 46 ∷ 50 ∷ 53 ∷ []) ∷ (50 ∷ []) ∷ []) (samples ((pos 0 ∷ []) ++ (pos 100000000000 ∷ []) ++ (pos 250000000000 ∷ []) ++ (pos 500000000000 ∷ []) ++ replicate 7 (pos 1000000000000) ++ (pos 750000000000 ∷ []) ++ (pos 500000000000 ∷ []) ++ (pos 250000000000 ∷ []) ++ (pos 0 ∷ [])))
    ∷  -- 1. 0 0.1 0.15 0.25 0.5 0 0 4 -0.25 -0.25 2
    expands V14 15 ((48 ∷ []) ∷ (48 ∷ 46 ∷ 49 ∷ []) ∷ (48 ∷ 46 ∷ 49 ∷ 53 ∷ []) ∷ (48 ∷ 46 ∷ 50 ∷ 53 ∷ []) ∷ (48 ∷ 46 ∷ 53 ∷ []) ∷ (48 ∷ []) ∷ (48 ∷ []) ∷ (52 ∷ []) ∷ (45 ∷ 48 ∷ 46 ∷ 50 ∷ 53 ∷ []) ∷ (45 ∷ 48 ∷ 46 ∷ 50 ∷ 53 ∷ []) ∷ (50 ∷ []) ∷ []) (samples ((pos 0 ∷ []) ++ (pos 100000000000 ∷ []) ++ (pos 250000000000 ∷ []) ++ (pos 500000000000 ∷ []) ++ replicate 7 (pos 1000000000000) ++ (pos 750000000000 ∷ []) ++ (pos 500000000000 ∷ []) ++ (pos 250000000000 ∷ []) ++ (pos 0 ∷ [])))
    ∷  -- 2. 1 0 0 97 -1 0 0 17
    expands V13 120 ((49 ∷ []) ∷ (48 ∷ []) ∷ (48 ∷ []) ∷ (57 ∷ 55 ∷ []) ∷ (45 ∷ 49 ∷ []) ∷ (48 ∷ []) ∷ (48 ∷ []) ∷ (49 ∷ 55 ∷ []) ∷ []) (samples (replicate 100 (pos 1000000000000) ++ replicate 20 (pos 0)))
    ∷  -- 2. 1 0 0 97 -1 0 0 17
    expands V14 120 ((49 ∷ []) ∷ (48 ∷ []) ∷ (48 ∷ []) ∷ (57 ∷ 55 ∷ []) ∷ (45 ∷ 49 ∷ []) ∷ (48 ∷ []) ∷ (48 ∷ []) ∷ (49 ∷ 55 ∷ []) ∷ []) (samples (replicate 100 (pos 1000000000000) ++ replicate 20 (pos 0)))
    ∷  -- 3. 0 0 0
    expands V14 3 ((48 ∷ []) ∷ (48 ∷ []) ∷ (48 ∷ []) ∷ []) (samples (replicate 3 (pos 0)))
    ∷  -- 3. 0 0 0
    expands V13 3 ((48 ∷ []) ∷ (48 ∷ []) ∷ (48 ∷ []) ∷ []) shape
    ∷  -- 4. 0 0 1
    expands V13 3 ((48 ∷ []) ∷ (48 ∷ []) ∷ (49 ∷ []) ∷ []) (samples (replicate 3 (pos 0)))
    ∷  -- 4. 0 0 1
    expands V14 3 ((48 ∷ []) ∷ (48 ∷ []) ∷ (49 ∷ []) ∷ []) (samples ((pos 0 ∷ pos 0 ∷ []) ++ (pos 1000000000000 ∷ [])))
    ∷  -- 5. 0 0 0
    expands V13 2 ((48 ∷ []) ∷ (48 ∷ []) ∷ (48 ∷ []) ∷ []) (samples ((pos 0 ∷ pos 0 ∷ [])))
    ∷  -- 5. 0 0 0
    expands V14 2 ((48 ∷ []) ∷ (48 ∷ []) ∷ (48 ∷ []) ∷ []) (samples ((pos 0 ∷ pos 0 ∷ [])))
    ∷  -- 6. 0 0 0 0 0 3
    expands V13 7 ((48 ∷ []) ∷ (48 ∷ []) ∷ (48 ∷ []) ∷ (48 ∷ []) ∷ (48 ∷ []) ∷ (51 ∷ []) ∷ []) (samples (replicate 7 (pos 0)))
    ∷  -- 6. 0 0 0 0 0 3
    expands V14 7 ((48 ∷ []) ∷ (48 ∷ []) ∷ (48 ∷ []) ∷ (48 ∷ []) ∷ (48 ∷ []) ∷ (51 ∷ []) ∷ []) (samples (replicate 7 (pos 0)))
    ∷  -- 7. 0 0
    expands V14 2 ((48 ∷ []) ∷ (48 ∷ []) ∷ []) (samples ((pos 0 ∷ pos 0 ∷ [])))
    ∷  -- 7. 0 0
    expands V13 2 ((48 ∷ []) ∷ (48 ∷ []) ∷ []) shape
    ∷  -- 8. 1e-13 2e-13 5
    expands V13 3 ((49 ∷ 101 ∷ 45 ∷ 49 ∷ 51 ∷ []) ∷ (50 ∷ 101 ∷ 45 ∷ 49 ∷ 51 ∷ []) ∷ (53 ∷ []) ∷ []) (samples ((pos 0 ∷ pos 0 ∷ []) ++ (pos 5000000000000 ∷ [])))
    ∷  -- 9. 5e-13
    expands V14 1 ((53 ∷ 101 ∷ 45 ∷ 49 ∷ 51 ∷ []) ∷ []) (samples ((pos 1 ∷ [])))
    ∷  -- 9. -5e-13
    expands V14 1 ((45 ∷ 53 ∷ 101 ∷ 45 ∷ 49 ∷ 51 ∷ []) ∷ []) (samples ((negsuc 0 ∷ [])))
    ∷  -- 9. 4.9e-13
    expands V14 1 ((52 ∷ 46 ∷ 57 ∷ 101 ∷ 45 ∷ 49 ∷ 51 ∷ []) ∷ []) (samples ((pos 0 ∷ [])))
    ∷  -- 10. duration 110 fits
    trap_in 110 fits
    ∷  -- 10. duration 109
    trap_in 109 outlasted
    ∷ []

pub marked-examples : Shown marked
unfolding marked outcome_of is_blank mark_of is_comment is_control any_control breaks_line onto ends_field fields_of same_z is_negative signed_of within is_digit all_digits value_from is_minus sign_len in_range signed_as up_to whole fraction digits is_mantissa mantissa_part exponent_part is_exponent exponent_of strip_in strip_from kept in_limits is_unsigned kept_of decimal_of same_decimal whole_at whole_of nearest round_at rounded_of number_item fields_item mark_item item_of is_sound all_sound with_item values_in repeated counted fresh_of sum_to add_of then_sum sums_of plain_of is_plain trace_of samples_in ends_well expands_to expansion_of rasters block_and_trap outlasts_at block_length longest_event longest_of number_length reference_length chain_length ref_at ref_of met_length met_row first_row first_such is_row_of class_at class_of number_at length_at length_of trap_length micros_at
marked-examples = and refl (and refl (and refl (and refl (and refl (and refl (and refl (and refl (and refl (and refl (and refl (and refl (and refl (and refl (and refl (and refl (and refl (and refl (and refl (and refl (all))))))))))))))))))))
