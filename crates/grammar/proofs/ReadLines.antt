-- Lines read where they stand in a text: cut off, or as a row at once; and what a caller learns of one. Assumes nothing.
use Rattle.std.proofs.Common.{ℤ, Some}
use Prim.Native.Nat.{ℕ, ◌-◌, ◌<◌}
use mathlib.Core.Bool.{Bool, true, false, cond}
use mathlib.Core.Logic.{◌⊎◌, inl, inr}
use mathlib.Core.List.{List, []}
use mathlib.Core.Path.{◌≡◌, refl, sym, ap, ◌∙◌}
use native.Mathlib.Omega.{arith}
use lib.ListN.{length, take, drop}
use Rattle.text.specs.Lines.{bare_of, line_at}
use Rattle.text.specs.Marks.{mark_of, breaks_line, cut_at}
use Rattle.text.specs.declared.Line.{Line}
use Rattle.text.specs.declared.Piece.{Piece}
use Rattle.text.specs.declared.Mark.{Mark}
use Rattle.text.specs.declared.Mark.TheVariants.{Blank, Comment, Section as SectionLine, Plain}
use Rattle.text.proofs.Cut.{LineAt, line-at, add-sub-left}
use Rattle.fields.specs.Fields.{fields_of}
use Rattle.columns.specs.declared.Form.{Form}
use Rattle.rows.specs.Placed.{line_row_of}
use Rattle.rows.specs.declared.RowLine.{RowLine}
use Rattle.rows.proofs.CutRows.{cut-past, cut-bare, cut-next, good-row}
use Rattle.places.specs.declared.Lines.{Lines}
use Rattle.places.specs.declared.Lines.TheVariants.{Rows}
use Rattle.places.specs.declared.Place.{Place}
use Rattle.places.specs.Places.{went_of, refused_of}
use Rattle.places.specs.declared.Fault.TheVariants.{Line as LineFault}
use Rattle.places.specs.declared.Place.TheVariants.{Section, Values}
use Rattle.places.specs.declared.State.{State}
use Rattle.places.specs.declared.Stepped.{Stepped}
use Rattle.numeral.specs.declared.Decimal.{Decimal}
use Rattle.shape.specs.Stored.{mark_item, item_of, held_at}
use Rattle.shape.specs.declared.Held.{Held}
use Rattle.shape.specs.declared.Item.{Item}
use Rattle.shape.specs.declared.Item.TheVariants.{Value, Skipped, Bad}
use Rattle.grammar.specs.Steps.{gave_of, lines_step, value_row, plain_step, marked_step, step_of, read_at}
use Rattle.grammar.specs.declared.Read.{Read}
use Rattle.grammar.proofs.Answers.{row-given, line_marked}

-- the line of a text that was read at a place
abbrev pub line_in : List ℕ → ℕ → Read → Line
line_in text at r = record { stop = (line_at text at).stop; next = r.next }

module _ (st : State) (n : ℕ) (text : List ℕ) (at : ℕ) where
  read_is : (did : Stepped) (next : ℕ) → did ≡ step_of st n (bare_of (drop at text)) → next ≡ (line_at text at).next → ◌≡◌ {A = Read} (record { did = did; next = next }) (read_at st n text at)
  unfolding read_at
  read_is did next p q = rw (p, q)

  -- ---- a line cut off
  pub read-cut : (r : Piece) → r ≡ cut_at text at → (did : Stepped) → did ≡ step_of st n (take (r.stop - at) (drop at text))
      → ◌≡◌ {A = Read} (record { did = did; next = r.next }) (read_at st n text at)
  read-cut r p did q = read_is did r.next (q ∙ ap (step_of st n) (cut-bare text at r p)) (cut-next text at r p)

  -- no line starts past the end
  pub read_past : (r : Piece) → r ≡ cut_at text at → length text < r.stop → (did : Stepped) → did ≡ step_of st n [] → ◌≡◌ {A = Read} (record { did = did; next = r.next }) (read_at st n text at)
  read_past r p h did q = read_is did r.next (q ∙ ap (step_of st n) (sym (cut-past text at r p h))) (cut-next text at r p)

  -- ---- a line of rows that is a row is a plain line
  rows_step : (line : List ℕ) (form : Form) (place : Place) → place ≡ Section (Rows form) → (m : Mark) → m ≡ Plain → place ≡ st.place → lines_step st n line (Rows form) ≡ marked_step st n line m
  unfolding plain_step marked_step
  rows_step line form place p m q e = rw (q, ← e, p)

  pub read-row : (lines : Lines) (form : Form) → st.place ≡ Section lines → lines ≡ Rows form → (r : RowLine) → r ≡ line_row_of st.edition form text at → (cells : List ℤ) → r.row ≡ Some cells → (did : Stepped)
      → did ≡ gave_of st n cells → ◌≡◌ {A = Read} (record { did = did; next = r.next }) (read_at st n text at)
  unfolding lines_step
  read-row lines form p q r e cells g did d =
      let x = good-row st.edition form text at r cells e g in
      let line = bare_of (drop at text) in
      read_is did r.next
      (d ∙ row-given st n form (fields_of line) (Some cells) x.row cells refl ∙ rows_step line form st.place (p ∙ ap Section q) (mark_of line) x.plain refl
      ∙ line_marked st n line x.allowed)
      x.next

  -- ---- a stored line that holds a value is a plain line
  value-step : st.place ≡ Values → (line : List ℕ) (d : Decimal) → item_of line ≡ Value d → went_of st ≡ step_of st n line
  unfolding item_of mark_item step_of marked_step plain_step value_row
  value-step p line d e = go (breaks_line line) (mark_of line) refl refl e
    where
      none : {i : Item} → i ≡ Value d → (i ≡ Bad) ⊎ (i ≡ Skipped) → ⊥
      none q (inl b) = let z : ◌≡◌ {A = ℕ} 0 1 = cc in omega arith
      none q (inr b) = let z : ◌≡◌ {A = ℕ} 0 1 = cc in omega arith

      go : (b : Bool) (m : Mark) → breaks_line line ≡ b → mark_of line ≡ m → cond b Bad (mark_item m line) ≡ Value d → went_of st ≡ cond b (refused_of st LineFault) (marked_step st n line m)
      go true m x y q = absurd (none q (inl refl))
      go false Blank x y q = absurd (none q (inl refl))
      go false Comment x y q = absurd (none q (inr refl))
      go false SectionLine x y q = absurd (none q (inl refl))
      go false Plain x y q = rw (p, e)

  pub read-value : st.place ≡ Values → (r : Held) → r ≡ held_at text at → (d : Decimal) → r.item ≡ Value d → (did : Stepped) → did ≡ went_of st
      → ◌≡◌ {A = Read} (record { did = did; next = r.next }) (read_at st n text at)
  unfolding held_at
  read-value p r e d i did q =
      read_is did r.next (q ∙ value-step p (bare_of (drop at text)) d (ap (λ (x : Held). x.item) (sym e) ∙ i)) (ap (λ (x : Held). x.next) e)

  -- ---- what a caller learns: the line that was read, and its step
  module _ (r : Read) (p : r ≡ read_at st n text at) where
    next-is : r.next ≡ (line_at text at).next
    unfolding read_at
    next-is = ap (λ (x : Read). x.next) p

    pub line-in : line_in text at r ≡ line_at text at
    line-in = ap (λ (k : ℕ). record { stop = (line_at text at).stop; next = k }) next-is

    pub read_at_lem : at < length text → LineAt text at (line_in text at r)
    read_at_lem h = line-at text at (line_in text at r) line-in h

    pub read-did : r.did ≡ step_of st n (take ((line_in text at r).stop - at) (drop at text))
    unfolding read_at line_at bare_of
    read-did = ap (λ (x : Read). x.did) p ∙ rw add-sub-left
