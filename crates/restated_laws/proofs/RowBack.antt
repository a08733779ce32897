-- A row that a text was restated with reads back by its columns. Assumes nothing.
use Rattle.std.proofs.Common.{Some}
use Prim.Native.Nat.{ℕ, ◌≤◌}
use mathlib.Core.Bool.{Bool, true, false, cond, true≢false}
use mathlib.Core.List.{List, [], ◌∷◌, ◌++◌}
use mathlib.Core.Path.{◌≡◌, refl, sym, ap, ◌∙◌}
use borrow.Author.Tests.{le-ltb, eqb-true}
use lib.Dec.{eqb}
use lib.IntN.{ℤ, pos, nat_abs}
use lib.ListN.{length, get_or, drop}
use Rattle.text.specs.Marks.{is_control, any_control, mark_of, is_comment, breaks_line}
use Rattle.text.specs.declared.Mark.TheVariants.{Plain}
use Rattle.text.proofs.Lines.{has_feed, ends_return, OneLine, or_left, or_right}
use Rattle.fields.specs.Fields.{fields_of, spaced, joined}
use Rattle.fields.proofs.Visible.{all_visible, visible_plain}
use Rattle.signed.specs.Signed.{is_negative}
use Rattle.print.specs.Printed.{signed_text, decimal_text}
use Rattle.print.proofs.Figures.{signed-visible, decimal-visible}
use Rattle.shape.specs.declared.Edition.{Edition}
use Rattle.shape_text.proofs.Figures.{number-mark}
use Rattle.columns.specs.Columns.{columns_of, form_number, is_absent, width_of}
use Rattle.columns.specs.Rows.{padded}
use Rattle.columns.specs.Ranges.{InRange}
use Rattle.columns.specs.declared.Kind.{Kind}
use Rattle.columns.specs.declared.Kind.TheVariants.{Id, Reference, Required, Micros, Duration, Count, Natural, Decimal, Dwell, Absent}
use Rattle.columns.specs.declared.Form.{Form}
use Rattle.columns.specs.declared.Form.TheVariants.{Block, Rf, Gradient, Trap, Adc, Delay, Entry, Trigger}
use Rattle.rows.specs.Cells.{row_from, row_is}
use Rattle.row_text.specs.Printed.{field_text, texts_of, row_text}
use Rattle.row_text.proofs.Back.{row_back, fields-row}
use Rattle.places.specs.declared.Lines.TheVariants.{Rows}
use Rattle.places.specs.declared.Place.TheVariants.{Section}
use Rattle.places.specs.declared.State.{State}
use Rattle.grammar.specs.Steps.{gave_of, given_row, row_step, lines_step, plain_step, marked_step, step_of}
use Rattle.said.proofs.Short.{AllSmall, row-length}

-- ---- The numbers of a row that its columns have: 0 for a column that no field stands for, and none past the columns
unfoldable pub own_of : List Kind → List ℤ → List ℤ
own_of [] vs = []
own_of (k ∷ ks) vs =
    cond (is_absent k) (pos 0 ∷ own_of ks (drop 1 vs))
    (cond (eqb (width_of k) 2) (get_or vs 0 (pos 0) ∷ get_or vs 1 (pos 0) ∷ own_of ks (drop 2 vs)) (get_or vs 0 (pos 0) ∷ own_of ks (drop 1 vs)))

-- they are all that is printed
own-texts : (ks : List Kind) (vs : List ℤ) → texts_of ks (own_of ks vs) ≡ texts_of ks vs
unfolding texts_of own_of field_text
own-texts [] vs = refl
own-texts (Id ∷ ks) vs = ap (λ (ws : List (List ℕ)). signed_text (get_or vs 0 (pos 0)) ∷ ws) (own-texts ks (drop 1 vs))
own-texts (Reference ∷ ks) vs = ap (λ (ws : List (List ℕ)). signed_text (get_or vs 0 (pos 0)) ∷ ws) (own-texts ks (drop 1 vs))
own-texts (Required ∷ ks) vs = ap (λ (ws : List (List ℕ)). signed_text (get_or vs 0 (pos 0)) ∷ ws) (own-texts ks (drop 1 vs))
own-texts (Micros ∷ ks) vs = ap (λ (ws : List (List ℕ)). signed_text (get_or vs 0 (pos 0)) ∷ ws) (own-texts ks (drop 1 vs))
own-texts (Duration ∷ ks) vs = ap (λ (ws : List (List ℕ)). signed_text (get_or vs 0 (pos 0)) ∷ ws) (own-texts ks (drop 1 vs))
own-texts (Count ∷ ks) vs = ap (λ (ws : List (List ℕ)). signed_text (get_or vs 0 (pos 0)) ∷ ws) (own-texts ks (drop 1 vs))
own-texts (Natural ∷ ks) vs = ap (λ (ws : List (List ℕ)). signed_text (get_or vs 0 (pos 0)) ∷ ws) (own-texts ks (drop 1 vs))
own-texts (Decimal ∷ ks) vs =
    ap (λ (ws : List (List ℕ)). decimal_text (record { mantissa = get_or vs 0 (pos 0); exponent = get_or vs 1 (pos 0) }) ∷ ws) (own-texts ks (drop 2 vs))
own-texts (Dwell ∷ ks) vs = ap (λ (ws : List (List ℕ)). signed_text (get_or vs 0 (pos 0)) ∷ ws) (own-texts ks (drop 1 vs))
own-texts (Absent ∷ ks) vs = own-texts ks (drop 1 vs)

pub own_back : (ks : List Kind) (vs : List ℤ) → InRange ks (own_of ks vs) → row_from ks (fields_of (row_text ks vs)) ≡ Some (own_of ks vs)
own_back ks vs r = ap (row_from ks) (fields-row ks vs ∙ sym (own-texts ks vs)) ∙ row_back r

-- ---- A line of no control bytes is one line
no-control : (b c : ℕ) → is_control c ≡ true → is_control b ≡ false → eqb b c ≡ false
no-control b c h k = go (eqb b c) refl
  where
    go : (t : Bool) → eqb b c ≡ t → t ≡ false
    go true e = absurd (true≢false (sym h ∙ ap is_control (sym (eqb-true b c e)) ∙ k))
    go false e = refl

plain-feed : (s : List ℕ) → any_control s ≡ false → has_feed s ≡ false
unfolding any_control has_feed
plain-feed [] h = refl
plain-feed (b ∷ s) h =
    rw (no-control b 10 (unfold is_control in refl) (or_left (is_control b) (any_control s) h)) (plain-feed s (or_right (is_control b) (any_control s) h))

plain-return : (s : List ℕ) → any_control s ≡ false → ends_return s ≡ false
unfolding any_control ends_return
plain-return [] h = refl
plain-return (b ∷ []) h = no-control b 13 (unfold is_control in refl) (or_left (is_control b) false h)
plain-return (b ∷ c ∷ s) h = plain-return (c ∷ s) (or_right (is_control b) (any_control (c ∷ s)) h)

pub plain-line : (s : List ℕ) → any_control s ≡ false → OneLine s
plain-line s h = record { whole = plain-feed s h; bare = plain-return s h }

pub control-append : (s t : List ℕ) → any_control s ≡ false → any_control t ≡ false → any_control (s ++ t) ≡ false
unfolding any_control
control-append [] t h k = k
control-append (b ∷ s) t h k = rw (or_left (is_control b) (any_control s) h) (control-append s t (or_right (is_control b) (any_control s) h) k)

-- ---- The line of a row has none
field-visible : (k : Kind) (vs : List ℤ) → all_visible (field_text k vs) ≡ true
unfolding field_text
field-visible Id vs = signed-visible (get_or vs 0 (pos 0))
field-visible Reference vs = signed-visible (get_or vs 0 (pos 0))
field-visible Required vs = signed-visible (get_or vs 0 (pos 0))
field-visible Micros vs = signed-visible (get_or vs 0 (pos 0))
field-visible Duration vs = signed-visible (get_or vs 0 (pos 0))
field-visible Count vs = signed-visible (get_or vs 0 (pos 0))
field-visible Natural vs = signed-visible (get_or vs 0 (pos 0))
field-visible Decimal vs = decimal-visible (record { mantissa = get_or vs 0 (pos 0); exponent = get_or vs 1 (pos 0) })
field-visible Dwell vs = signed-visible (get_or vs 0 (pos 0))
field-visible Absent vs = unfold all_visible in refl

pub spaced-plain : (w : List ℕ) (ws : List (List ℕ)) → all_visible w ≡ true → any_control (spaced ws) ≡ false → any_control (spaced (w ∷ ws)) ≡ false
unfolding spaced any_control is_control
spaced-plain w ws v h = control-append w (spaced ws) (visible_plain w v) h

pub joined-plain : (ws : List (List ℕ)) → any_control (spaced ws) ≡ false → any_control (joined ws) ≡ false
unfolding spaced joined any_control is_control
joined-plain [] h = refl
joined-plain (w ∷ ws) h = h

texts-plain : (ks : List Kind) (vs : List ℤ) → any_control (spaced (texts_of ks vs)) ≡ false
unfolding texts_of
texts-plain [] vs = unfold spaced any_control in refl
texts-plain (k ∷ ks) vs = go (is_absent k) (texts-plain ks (drop (width_of k) vs))
  where
    go : (b : Bool) → any_control (spaced (texts_of ks (drop (width_of k) vs))) ≡ false
        → any_control (spaced (cond b (texts_of ks (drop (width_of k) vs)) (field_text k vs ∷ texts_of ks (drop (width_of k) vs)))) ≡ false
    go true h = h
    go false h = spaced-plain (field_text k vs) (texts_of ks (drop (width_of k) vs)) (field-visible k vs) h

pub row_plain : (ks : List Kind) (vs : List ℤ) → any_control (row_text ks vs) ≡ false
unfolding row_text
row_plain ks vs = joined-plain (texts_of ks vs) (texts-plain ks vs)

-- ---- and is no comment and no section line
signed-mark : (z : ℤ) (t : List ℕ) → mark_of (signed_text z ++ t) ≡ Plain
unfolding signed_text
signed-mark z t = number-mark (is_negative z) (nat_abs z) t

pub row-mark : (e : Edition) (form : Form) (vs : List ℤ) → mark_of (row_text (columns_of e form) vs) ≡ Plain
unfolding row_text columns_of texts_of field_text joined
row-mark e Block vs = signed-mark (get_or vs 0 (pos 0)) _
row-mark e Rf vs = signed-mark (get_or vs 0 (pos 0)) _
row-mark e Gradient vs = signed-mark (get_or vs 0 (pos 0)) _
row-mark e Trap vs = signed-mark (get_or vs 0 (pos 0)) _
row-mark e Adc vs = signed-mark (get_or vs 0 (pos 0)) _
row-mark e Delay vs = signed-mark (get_or vs 0 (pos 0)) _
row-mark e Entry vs = signed-mark (get_or vs 0 (pos 0)) _
row-mark e Trigger vs = signed-mark (get_or vs 0 (pos 0)) _

-- ---- A line that is plain and short is read by the place where the file stands
pub plain_step_lem : (st : State) (n : ℕ) (line : List ℕ) → length line ≤ 1024 → any_control line ≡ false → mark_of line ≡ Plain → step_of st n line ≡ plain_step st n line st.place
unfolding step_of breaks_line is_comment marked_step
plain_step_lem st n line h c m = rw (le-ltb 1024 (length line) h, m, c)

-- ---- The row by its columns, in whatever place its form is read
module _ (st : State) (n : ℕ) (form : Form) (row : List ℤ) (r : InRange (columns_of st.edition form) (own_of (columns_of st.edition form) (drop 1 row))) where
  abbrev line : List ℕ
  line = row_text (columns_of st.edition form) (drop 1 row)

  abbrev own : List ℤ
  own = own_of (columns_of st.edition form) (drop 1 row)

  pub row-step-back : row_step st n form (fields_of line) ≡ gave_of st n (padded (form_number form) own)
  unfolding row_step given_row row_is
  row-step-back = rw (own_back (columns_of st.edition form) (drop 1 row) r)

  pub row-line-back : AllSmall row → st.place ≡ Section (Rows form) → step_of st n line ≡ gave_of st n (padded (form_number form) own)
  row-line-back small p =
      plain_step_lem st n line (row-length st.edition form row small) (row_plain (columns_of st.edition form) (drop 1 row)) (row-mark st.edition form (drop 1 row))
      ∙ ap (plain_step st n line) p
      ∙ (unfold plain_step lines_step in row-step-back)
