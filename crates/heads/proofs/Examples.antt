-- Worked examples, computed from the definitions. Assumes nothing.
use Rattle.std.proofs.Common.{None, Some}
use mathlib.Core.Bool.{true, false}
use mathlib.Core.List.{[], ◌∷◌}
use mathlib.Core.Path.{◌≡◌, refl}
use lib.IntN.{pos, negsuc}
use Rattle.text.specs.Lines.{onto}
use Rattle.text.specs.Marks.{is_blank}
use Rattle.fields.specs.Fields.{ends_field, fields_of}
use Rattle.text.specs.Words.{same_bytes, place_from}
use Rattle.signed.specs.Signed.{signed_of}
use Rattle.numeral.specs.Digits.{is_digit, all_digits, value_from, is_minus}
use Rattle.numeral.specs.Integer.{in_range, is_integer, integer_of, signed_as, counter_of}
use Rattle.shape.specs.declared.Edition.TheVariants.{V13, V14}
use Rattle.heads.specs.Heads.{label_names, is_v14, set_value, increment_value, label_value, label_head, label_fields, label_of, is_name_byte, all_name_bytes, is_name, extension_names, extension_word, extension_head, extension_fields, extension_of, word_number_of}
use Rattle.heads.specs.Heads.{Label, Extension}

-- 5 -3 LIN, incremented
counter : label_of V13 true (fields_of (53 ∷ 32 ∷ 45 ∷ 51 ∷ 32 ∷ 76 ∷ 73 ∷ 78 ∷ [])) ≡ Label 5 (negsuc 2) 1
unfolding onto is_blank ends_field fields_of same_bytes place_from signed_of is_digit all_digits value_from is_minus in_range is_integer integer_of signed_as counter_of label_names increment_value label_value label_head label_fields label_of
counter = refl

-- 5 1 ONCE: set in 1.4 alone, and never incremented
once : label_of V14 false (fields_of (53 ∷ 32 ∷ 49 ∷ 32 ∷ 79 ∷ 78 ∷ 67 ∷ 69 ∷ [])) ≡ Label 5 (pos 1) 13
unfolding onto is_blank ends_field fields_of same_bytes place_from signed_of is_digit all_digits value_from is_minus in_range is_integer integer_of signed_as label_names is_v14 set_value label_value label_head label_fields label_of
once = refl

once-early : label_of V13 false (fields_of (53 ∷ 32 ∷ 49 ∷ 32 ∷ 79 ∷ 78 ∷ 67 ∷ 69 ∷ [])) ≡ None
unfolding onto is_blank ends_field fields_of same_bytes place_from is_digit all_digits value_from in_range is_integer integer_of label_names is_v14 set_value label_value label_head label_fields label_of
once-early = refl

once-incremented : label_of V14 true (fields_of (53 ∷ 32 ∷ 49 ∷ 32 ∷ 79 ∷ 78 ∷ 67 ∷ 69 ∷ [])) ≡ None
unfolding onto is_blank ends_field fields_of same_bytes place_from is_digit all_digits value_from in_range is_integer integer_of label_names increment_value label_value label_head label_fields label_of
once-incremented = refl

-- extension TRIGGERS 1
triggers : extension_of (fields_of (101 ∷ 120 ∷ 116 ∷ 101 ∷ 110 ∷ 115 ∷ 105 ∷ 111 ∷ 110 ∷ 32 ∷ 84 ∷ 82 ∷ 73 ∷ 71 ∷ 71 ∷ 69 ∷ 82 ∷ 83 ∷ 32 ∷ 49 ∷ [])) ≡ Extension 1 1
unfolding onto is_blank ends_field fields_of same_bytes place_from is_digit all_digits value_from in_range is_integer integer_of is_name_byte all_name_bytes is_name extension_names extension_word extension_head extension_fields extension_of
triggers = refl

-- extension my_1 7: a name that is none of the three
unknown : extension_of (fields_of (101 ∷ 120 ∷ 116 ∷ 101 ∷ 110 ∷ 115 ∷ 105 ∷ 111 ∷ 110 ∷ 32 ∷ 109 ∷ 121 ∷ 95 ∷ 49 ∷ 32 ∷ 55 ∷ [])) ≡ Extension 7 0
unfolding onto is_blank ends_field fields_of same_bytes place_from is_digit all_digits value_from in_range is_integer integer_of is_name_byte all_name_bytes is_name extension_names extension_word extension_head extension_fields extension_of
unknown = refl

-- id 12, of the word `id`, from 1 to 20; to 11 it is refused
number : word_number_of (105 ∷ 100 ∷ []) 1 20 (fields_of (105 ∷ 100 ∷ 32 ∷ 49 ∷ 50 ∷ [])) ≡ Some 12
unfolding onto is_blank ends_field fields_of same_bytes is_digit all_digits value_from in_range is_integer integer_of word_number_of
number = refl

number-beyond : word_number_of (105 ∷ 100 ∷ []) 1 11 (fields_of (105 ∷ 100 ∷ 32 ∷ 49 ∷ 50 ∷ [])) ≡ None
unfolding onto is_blank ends_field fields_of same_bytes is_digit all_digits value_from in_range is_integer integer_of word_number_of
number-beyond = refl
