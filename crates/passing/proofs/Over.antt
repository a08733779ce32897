-- What is known of a line that is passed over and not at fault: the file stands where it stood, and the line gave a row by columns or nothing.
-- Assumes nothing.
use Rattle.std.proofs.Common.{Option, None, Some}
use Prim.Native.Nat.{ℕ, suc}
use mathlib.Core.Bool.{Bool, true, false, cond, true≢false}
use mathlib.Core.List.{List, [], ◌∷◌}
use mathlib.Core.Path.{◌≡◌, refl, sym, ◌∙◌}
use lib.IntN.{ℤ, pos}
use lib.ListN.{get_or, set}
use lib.Seq.{sets, get_or-set_other}
use native.Mathlib.Omega.{arith}
use Rattle.fields.specs.Fields.{fields_of}
use Rattle.text.specs.Marks.{mark_of, breaks_line}
use Rattle.text.specs.declared.Mark.{Mark}
use Rattle.text.specs.declared.Mark.TheVariants.{Blank, Comment, Section as SectionLine, Plain}
use Rattle.shape.specs.Stored.{item_of}
use Rattle.shape.specs.declared.Item.{Item}
use Rattle.shape.specs.declared.Item.TheVariants.{Value as ItemValue, Skipped, Bad as ItemBad}
use Rattle.columns.specs.Columns.{columns_of, form_number}
use Rattle.columns.specs.Rows.{blank, padded}
use Rattle.columns.specs.declared.Form.{Form}
use Rattle.rows.specs.Cells.{row_from, row_is}
use Rattle.grammar.specs.Steps.{value_row, given_row, row_step, lines_step, plain_step, marked_step, step_of}
use Rattle.places.specs.Places.{went_of, refused_of}
use Rattle.places.specs.declared.Lines.{Lines}
use Rattle.places.specs.declared.Lines.TheVariants.{None as NoLines, Definitions, Rows, Shapes}
use Rattle.places.specs.declared.Place.{Place}
use Rattle.places.specs.declared.Place.TheVariants.{Start, Version, Section, Extensions, Head, Values, Signature}
use Rattle.places.specs.declared.Fault.TheVariants.{Line}
use Rattle.places.specs.declared.Found.TheVariants.{Nothing, Row}
use Rattle.places.specs.declared.State.{State}
use Rattle.places.specs.declared.Stepped.{Stepped}
use Rattle.file.specs.Whole.{is_fault}
use Rattle.passing.specs.Passing.{passes_in, passes_at, passes_of}

-- ---- a row by columns, or nothing
pub data Gave (s : Stepped) : Type 0 where
  nothing : s.found ≡ Nothing → Gave s
  columns : (form : Form) → s.found ≡ Row → get_or s.cells 0 (pos 0) ≡ pos (form_number form) → Gave s

pub record Over (st : State) (s : Stepped) : Type 0 where
  pub next : s.next ≡ st
  pub gave : Gave s

-- ---- the kind of a row is its first number
set-behind : (l vs : List ℤ) (k : ℕ) → get_or (sets l (suc k) vs) 0 (pos 0) ≡ get_or l 0 (pos 0)
set-behind l [] k = refl
set-behind l (v ∷ vs) k = set-behind (set l (suc k) v) vs (suc k) ∙ get_or-set_other l (suc k) 0 v (pos 0) (λ (e : 0 ≡ suc k). absurd (omega arith))

pub kind-of : (kind : ℕ) (vs : List ℤ) → get_or (padded kind vs) 0 (pos 0) ≡ pos kind
unfolding padded
kind-of kind vs = set-behind (set blank 0 (pos kind)) vs 0

-- ---- a line that is not at fault, by its mark and where the file stands
module _ (st : State) (n : ℕ) where
  went : Over st (went_of st)
  went = record { next = refl; gave = nothing refl }

  row-over : (form : Form) (o : Option (List ℤ)) → is_fault (given_row st n (row_is form o)).found ≡ false → Over st (given_row st n (row_is form o))
  unfolding given_row row_is is_fault
  row-over form None e = absurd (true≢false e)
  row-over form (Some vs) e = record { next = refl; gave = columns form refl (kind-of (form_number form) vs) }

  value-over : (i : Item) → is_fault (value_row st i).found ≡ false → Over st (value_row st i)
  unfolding value_row is_fault
  value-over (ItemValue d) e = went
  value-over Skipped e = went
  value-over ItemBad e = absurd (true≢false e)

  lines-over : (line : List ℕ) (lines : Lines) → passes_in lines ≡ true → is_fault (lines_step st n line lines).found ≡ false → Over st (lines_step st n line lines)
  unfolding lines_step row_step
  lines-over line NoLines p e = absurd (true≢false (sym p))
  lines-over line Definitions p e = absurd (true≢false (sym p))
  lines-over line (Rows form) p e = row-over form (row_from (columns_of st.edition form) (fields_of line)) e
  lines-over line Shapes p e = absurd (true≢false (sym p))

  plain_over : (line : List ℕ) (place : Place) → passes_at place ≡ true → is_fault (plain_step st n line place).found ≡ false → Over st (plain_step st n line place)
  unfolding plain_step
  plain_over line Start p e = absurd (true≢false (sym p))
  plain_over line (Version due) p e = absurd (true≢false (sym p))
  plain_over line (Section lines) p e = lines-over line lines p e
  plain_over line (Extensions listed) p e = absurd (true≢false (sym p))
  plain_over line (Head id m) p e = absurd (true≢false (sym p))
  plain_over line Values p e = value-over (item_of line) e
  plain_over line Signature p e = went

  marked-over : (line : List ℕ) (m : Mark) → passes_of st.place m ≡ true → is_fault (marked_step st n line m).found ≡ false → Over st (marked_step st n line m)
  unfolding marked_step
  marked-over line Blank p e = absurd (true≢false (sym p))
  marked-over line Comment p e = went
  marked-over line SectionLine p e = absurd (true≢false (sym p))
  marked-over line Plain p e = plain_over line st.place p e

  pub passed_over : (line : List ℕ) → passes_of st.place (mark_of line) ≡ true → is_fault (step_of st n line).found ≡ false → Over st (step_of st n line)
  unfolding step_of is_fault
  passed_over line p e = go (breaks_line line) e
    where
      go : (b : Bool) → is_fault (cond b (refused_of st Line) (marked_step st n line (mark_of line))).found ≡ false
          → Over st (cond b (refused_of st Line) (marked_step st n line (mark_of line)))
      go true e = absurd (true≢false e)
      go false e = marked-over line (mark_of line) p e
