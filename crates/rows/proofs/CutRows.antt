-- A line cut off a text and read as a row; and that only a plain line is one. Assumes nothing.
use Rattle.std.proofs.Common.{Option, None, Some}
use Prim.Native.Nat.{ℕ, ◌+◌, ◌-◌, ◌≤◌, ◌<◌}
use mathlib.Core.Bool.{Bool, true, false, cond, not}
use mathlib.Core.List.{List, [], ◌∷◌}
use mathlib.Core.Logic.{⊎_elim}
use mathlib.Core.Path.{◌≡◌, refl, sym, ap, ◌∙◌}
use native.Mathlib.Omega.{arith}
use borrow.Author.Tests.{not-false}
use lib.IntN.{ℤ}
use lib.ListN.{length, get_or, take, drop, length-drop, drop_of_length-le}
use lib.Seq.{length-take-le, drop-cons}
use Rattle.text.specs.Lines.{bare_of, bare_len, line_at}
use Rattle.text.specs.Marks.{mark_of, is_comment, any_control, breaks_line, cut_at}
use Rattle.text.specs.Blanks.{skipped}
use Rattle.text.specs.declared.Piece.{Piece}
use Rattle.text.specs.declared.Mark.TheVariants.{Plain}
use Rattle.text.proofs.Cases.{lt-or-ge, true-or-false}
use Rattle.text.proofs.Blanks.{skip-ends}
use Rattle.text.proofs.Cut.{add-sub-left}
use Rattle.text.proofs.Clean.{cut-at}
use Rattle.text.proofs.Marks.{mark-plain, breaks-long, breaks-clean, breaks-other}
use Rattle.fields.specs.Fields.{fields_of}
use Rattle.numeral.specs.Digits.{is_digit}
use Rattle.numeral.proofs.Digits.{digit-least, digit-most}
use Rattle.shape.specs.declared.Edition.{Edition}
use Rattle.columns.specs.Columns.{columns_of}
use Rattle.columns.specs.declared.Kind.{Kind}
use Rattle.columns.specs.declared.Kind.TheVariants.{Id}
use Rattle.columns.specs.declared.Form.{Form}
use Rattle.columns.specs.declared.Form.TheVariants.{Block, Rf, Gradient, Trap, Adc, Delay, Entry, Trigger}
use Rattle.rows.specs.Cells.{row_from, row_is}
use Rattle.rows.specs.Placed.{allowed_row, placed_row, line_row_of}
use Rattle.rows.specs.declared.RowLine.{RowLine}
use Rattle.rows.proofs.Rows.{row-short, no_row}
use Rattle.rows.proofs.Digits.{none-there, word-there, no-digits}

-- ---- A row starts with an ID, so that its line is a plain one
id-first : (edition : Edition) (form : Form) → columns_of edition form ≡ Id ∷ drop 1 (columns_of edition form)
unfolding columns_of
id-first edition Block = refl
id-first edition Rf = refl
id-first edition Gradient = refl
id-first edition Trap = refl
id-first edition Adc = refl
id-first edition Delay = refl
id-first edition Entry = refl
id-first edition Trigger = refl

none-some : (vs : List ℤ) → None ≡ Some vs → ⊥
none-some vs e = let z : ◌≡◌ {A = ℕ} 0 1 = cc in omega arith

id-plain : (line : List ℕ) (ks : List Kind) (vs : List ℤ) → row_from (Id ∷ ks) (fields_of line) ≡ Some vs → mark_of line ≡ Plain
id-plain line ks vs e =
    ⊎_elim
    (λ (h : skipped line 0 < length line). ⊎_elim
    (λ (d : is_digit (get_or line (skipped line 0) 0) ≡ true). begins h d)
    (λ (d : is_digit (get_or line (skipped line 0) 0) ≡ false). absurd (none-some vs (sym (no-digits (word-there line 0 (skipped line 0) refl h) h d (skip-ends line 0 _ _ (drop-cons line (skipped line 0) 0 h)) Id refl ks) ∙ e)))
    (true-or-false (is_digit (get_or line (skipped line 0) 0))))
    (λ (h : length line ≤ skipped line 0). absurd (none-some vs (sym (rw (none-there line 0 (skipped line 0) refl h) (row-short Id ks refl)) ∙ e)))
    (lt-or-ge (skipped line 0) (length line))
  where
    begins : skipped line 0 < length line → is_digit (get_or line (skipped line 0) 0) ≡ true → mark_of line ≡ Plain
    begins h d =
        let a = digit-least _ d in
        let b = digit-most _ d in
        sym (mark-plain line (skipped line 0) refl h (λ (q : get_or line (skipped line 0) 0 ≡ 35). omega arith) (λ (q : get_or line (skipped line 0) 0 ≡ 91). omega arith))

pub row_plain : (edition : Edition) (form : Form) (line : List ℕ) (vs : List ℤ) → row_from (columns_of edition form) (fields_of line) ≡ Some vs → mark_of line ≡ Plain
row_plain edition form line vs e = id-plain line (drop 1 (columns_of edition form)) vs (rw (id-first edition form) at e)

-- ---- What LINE refuses is no row, and no comment is one
module _ (edition : Edition) (form : Form) (line : List ℕ) where
  pub row-broken : breaks_line line ≡ true → None ≡ allowed_row edition form line
  unfolding allowed_row
  row-broken e = rw e (no_row form None refl)

  pub row-allowed : breaks_line line ≡ false → row_is form (row_from (columns_of edition form) (fields_of line)) ≡ allowed_row edition form line
  unfolding allowed_row
  row-allowed e = rw e

  row_is_lem : {o : Option (List ℤ)} → row_from (columns_of edition form) (fields_of line) ≡ o → allowed_row edition form line ≡ row_is form (cond (breaks_line line) None o)
  unfolding allowed_row
  row_is_lem p = rw p

  not-comment : is_comment Plain ≡ false
  unfolding is_comment
  not-comment = refl

  -- no row, whether LINE refuses the line or not
  row-none : row_from (columns_of edition form) (fields_of line) ≡ None → None ≡ allowed_row edition form line
  row-none p = either (breaks_line line) ∙ sym (row_is_lem p)
    where
      either : (b : Bool) → None ≡ row_is form (cond b None None)
      either true = no_row form None refl
      either false = no_row form None refl

  pub row-control : any_control line ≡ true → None ≡ allowed_row edition form line
  row-control e =
      ⊎_elim (λ (h : 1024 < length line). row-broken (sym (breaks-long line h)))
      (λ (h : length line ≤ 1024). go h (row_from (columns_of edition form) (fields_of line)) refl)
      (lt-or-ge 1024 (length line))
    where
      go : length line ≤ 1024 → (o : Option (List ℤ)) → row_from (columns_of edition form) (fields_of line) ≡ o → None ≡ allowed_row edition form line
      go h None p = row-none p
      go h (Some vs) p = row-broken (sym (breaks-other line h (mark_of line) refl Plain (row_plain edition form line vs p) not-comment) ∙ e)

-- an empty line is none
empty-none : (edition : Edition) (form : Form) → row_from (columns_of edition form) (fields_of []) ≡ None
unfolding fields_of
empty-none edition form = rw (id-first edition form) (row-short Id (drop 1 (columns_of edition form)) refl)

-- ---- A line cut off
module _ (text : List ℕ) (at : ℕ) (r : Piece) (p : r ≡ cut_at text at) where
  stops : r.stop ≡ at + bare_len (drop at text)
  unfolding cut_at line_at
  stops = ap (λ (x : Piece). x.stop) p

  pub cut_later : at ≤ r.stop
  cut_later = omega (arith, stops)

  -- the line that starts past the end is empty
  pub cut-past : length text < r.stop → bare_of (drop at text) ≡ []
  unfolding bare_of bare_len
  cut-past h =
      ⊎_elim
      (λ (k : at < length text). absurd (omega (arith, (cut-at text at r p k).within)))
      (λ (k : length text ≤ at). rw (drop_of_length-le text k))
      (lt-or-ge at (length text))

  pub cut-bare : take (r.stop - at) (drop at text) ≡ bare_of (drop at text)
  unfolding bare_of
  cut-bare = rw (stops, add-sub-left)

  cut-long : r.stop ≤ length text → length (bare_of (drop at text)) ≡ r.stop - at
  unfolding bare_of
  cut-long h =
      let d = length-drop at text in
      let s = stops in
      let e : bare_len (drop at text) ≡ r.stop - at = omega arith in
      length-take-le (bare_len (drop at text)) (drop at text) (omega arith) ∙ e

  clean_is : r.clean ≡ not (any_control (bare_of (drop at text)))
  unfolding cut_at
  clean_is = ap (λ (x : Piece). x.clean) p

  pub cut-next : r.next ≡ (line_at text at).next
  unfolding cut_at
  cut-next = ap (λ (x : Piece). x.next) p

  -- the answer, by the row that it holds
  module _ (edition : Edition) (form : Form) (row : (Option (List ℤ))) (a : RowLine) (q : a ≡ placed_row row r.next) where
    placed-as : row ≡ allowed_row edition form (bare_of (drop at text)) → a ≡ line_row_of edition form text at
    unfolding line_row_of
    placed-as e = q ∙ rw (e, cut-next)

    -- a byte that only a comment may hold, no line at all, a long line, and a line that may stand in a file
    pub row-unclean : row ≡ None → r.clean ≡ false → a ≡ line_row_of edition form text at
    row-unclean e f = placed-as (e ∙ row-control edition form (bare_of (drop at text)) (not-false _ (sym clean_is ∙ f)))

    pub row-past : row ≡ None → length text < r.stop → a ≡ line_row_of edition form text at
    row-past e h = placed-as (e ∙ rw (cut-past h) (row-none edition form [] (empty-none edition form)))

    module _ (h : r.stop ≤ length text) where
      pub row-long : row ≡ None → 1024 < r.stop - at → a ≡ line_row_of edition form text at
      row-long e k = placed-as (e ∙ row-broken edition form (bare_of (drop at text)) (sym (breaks-long (bare_of (drop at text)) (rw (cut-long h) k))))

      pub row_cut : row ≡ row_is form (row_from (columns_of edition form) (fields_of (take (r.stop - at) (drop at text)))) → r.clean ≡ true → r.stop - at ≤ 1024
          → a ≡ line_row_of edition form text at
      row_cut e f k = placed-as (e ∙ rw cut-bare (row-allowed edition form (bare_of (drop at text)) (breaks-clean (bare_of (drop at text)) (rw (cut-long h) k) r.clean clean_is f)))

-- ---- A line read as a row of a form that is known
pub row_told : (edition : Edition) {form k : Form} (text : List ℕ) (at : ℕ) {r : RowLine} → form ≡ k → r ≡ line_row_of edition k text at → r ≡ line_row_of edition form text at
row_told edition text at e p = rw e p

-- ---- What a row that was read says of its line
pub record GoodRow (edition : Edition) (form : Form) (text : List ℕ) (at : ℕ) (r : RowLine) (cells : List ℤ) : Type 0 where
  pub allowed : breaks_line (bare_of (drop at text)) ≡ false
  pub plain : mark_of (bare_of (drop at text)) ≡ Plain
  pub row : Some cells ≡ row_is form (row_from (columns_of edition form) (fields_of (bare_of (drop at text))))
  pub next : r.next ≡ (line_at text at).next

pub good-row : (edition : Edition) (form : Form) (text : List ℕ) (at : ℕ) (r : RowLine) (cells : List ℤ) → r ≡ line_row_of edition form text at → r.row ≡ Some cells
    → GoodRow edition form text at r cells
unfolding line_row_of placed_row allowed_row row_is
good-row edition form text at r cells p e =
    go (breaks_line (bare_of (drop at text))) (row_from (columns_of edition form) (fields_of (bare_of (drop at text)))) refl refl (ap (λ (x : RowLine). x.row) p)
    (ap (λ (x : RowLine). x.next) p)
  where
    go : (b : Bool) (o : Option (List ℤ)) → breaks_line (bare_of (drop at text)) ≡ b → row_from (columns_of edition form) (fields_of (bare_of (drop at text))) ≡ o
        → r.row ≡ row_is form (cond b None o) → r.next ≡ (line_at text at).next → GoodRow edition form text at r cells
    go true o f q g n = absurd (none-some cells (sym g ∙ e))
    go false None f q g n = absurd (none-some cells (sym g ∙ e))
    go false (Some vs) f q g n = record { allowed = f; plain = row_plain edition form (bare_of (drop at text)) vs q; row = rw q (sym e ∙ g); next = n }
