-- The stored lines of a shape: "one decimal a line". One definition for whoever reads, counts or expands them.
use Rattle.std.specs.Prelude.{ℕ, Bool, true, false, cond, ◌&&◌, List, [], ◌∷◌, length, drop, None, Option, Some}
use Rattle.text.specs.Lines.{lines_of, bare_of, line_at}
use Rattle.text.specs.Marks.{mark_of, breaks_line}
use Rattle.fields.specs.Fields.{fields_of}
use Rattle.text.specs.declared.Mark.{Mark}
use Rattle.text.specs.declared.Mark.TheVariants.{Blank, Comment, Section, Plain}
use Rattle.decimals.specs.Decimal.{decimal_of}
use Rattle.numeral.specs.declared.Decimal.{Decimal}
use Rattle.shape.specs.declared.Held.{Held}
use Rattle.shape.specs.declared.Item.{Item}
use Rattle.shape.specs.declared.Item.TheVariants.{Value, Skipped, Bad}

-- ---- One line: a comment is skipped, and anything else that is not one decimal is at fault
unfoldable pub number_item : Option Decimal → Item
number_item (Some d) = Value d
number_item None = Bad

unfoldable pub fields_item : List (List ℕ) → Item
fields_item [] = Bad
fields_item (f ∷ []) = number_item (decimal_of f)
fields_item (f ∷ g ∷ fs) = Bad

unfoldable pub mark_item : Mark → List ℕ → Item
mark_item Blank line = Bad
mark_item Comment line = Skipped
mark_item Section line = Bad
mark_item Plain line = fields_item (fields_of line)

unfoldable pub item_of : List ℕ → Item
item_of line = cond (breaks_line line) Bad (mark_item (mark_of line) line)

-- the line that starts at a place, and where the next one starts
unfoldable pub held_at : List ℕ → ℕ → Held
held_at text at = record { item = item_of (bare_of (drop at text)); next = (line_at text at).next }

-- ---- All lines: that none is at fault, and the values that they hold
unfoldable pub is_sound : Item → Bool
is_sound (Value d) = true
is_sound Skipped = true
is_sound Bad = false

unfoldable pub all_sound : List (List ℕ) → Bool
all_sound [] = true
all_sound (l ∷ ls) = is_sound (item_of l) && all_sound ls

-- what a line holds, in front of the values of the others
unfoldable pub with_item : Item → List Decimal → List Decimal
with_item (Value d) ds = d ∷ ds
with_item Skipped ds = ds
with_item Bad ds = ds

unfoldable pub values_in : List (List ℕ) → List Decimal
values_in [] = []
values_in (l ∷ ls) = with_item (item_of l) (values_in ls)

-- the stored values of a text
unfoldable pub values_of : List ℕ → List Decimal
values_of text = values_in (lines_of text)

-- those left from a place on
abbrev pub values_at : List ℕ → ℕ → List Decimal
values_at text from = values_of (drop from text)

-- how many there are, or that a line is at fault
unfoldable pub count_of : List ℕ → Option ℕ
count_of text = cond (all_sound (lines_of text)) (Some (length (values_of text))) None
