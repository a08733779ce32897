-- A row in range is its kind, its own numbers and zeros: how many numbers it has, and by which columns. Assumes nothing.
use Prim.Native.Nat.{ℕ, zero, suc, ◌≤◌}
use mathlib.Core.Bool.{Bool, true, false, true≢false}
use mathlib.Core.List.{List, [], ◌∷◌}
use mathlib.Core.Path.{◌≡◌, refl, sym, ap, subst, ◌∙◌}
use native.Mathlib.Omega.{arith}
use lib.IntN.{ℤ, pos, nat_abs}
use lib.ListN.{length, get_or}
use Rattle.shape.specs.declared.Edition.{Edition}
use Rattle.shape.specs.declared.Edition.TheVariants.{V13, V14}
use Rattle.columns.specs.Columns.{columns_of, form_number, extension_kind, label_kind, shape_kind}
use Rattle.columns.specs.Inside.{widths_of}
use Rattle.columns.specs.Rows.{padded}
use Rattle.columns.specs.Ranges.{InRange, no_more, no_field, one_number, two-numbers}
use Rattle.columns.specs.declared.Kind.{Kind}
use Rattle.columns.specs.declared.Form.{Form}
use Rattle.columns.specs.declared.Form.TheVariants.{Block, Rf, Gradient, Trap, Adc, Delay, Entry, Trigger}
use Rattle.columns.proofs.Widths.{whole-width, row_fits}
use Rattle.file_laws.specs.Ranges.{RowIn, by-columns, extension, label, shape}

-- ---- Forms by their numbers
abbrev form_by : ℕ → Form
form_by n = get_or (Block ∷ Block ∷ Rf ∷ Gradient ∷ Trap ∷ Adc ∷ Delay ∷ Entry ∷ Entry ∷ Trigger ∷ []) n Block

abbrev is_form : ℕ → Bool
is_form n = get_or (false ∷ true ∷ true ∷ true ∷ true ∷ true ∷ true ∷ true ∷ false ∷ true ∷ []) n false

form-back : (form : Form) → form_by (form_number form) ≡ form
form-back Block = refl
form-back Rf = refl
form-back Gradient = refl
form-back Trap = refl
form-back Adc = refl
form-back Delay = refl
form-back Entry = refl
form-back Trigger = refl

form-is : (form : Form) → is_form (form_number form) ≡ true
form-is Block = refl
form-is Rf = refl
form-is Gradient = refl
form-is Trap = refl
form-is Adc = refl
form-is Delay = refl
form-is Entry = refl
form-is Trigger = refl

no-form : (n : ℕ) → is_form n ≡ false → (form : Form) → n ≡ form_number form → ⊥
no-form n f form e = true≢false (sym (form-is form) ∙ ap is_form (sym e) ∙ f)

-- ---- How many numbers a row of each kind has behind it
abbrev pub own_width : ℕ → ℕ
own_width kind = get_or (0 ∷ 9 ∷ 11 ∷ 6 ∷ 7 ∷ 8 ∷ 2 ∷ 4 ∷ 2 ∷ 5 ∷ 4 ∷ 3 ∷ []) kind 0

form-width : (e : Edition) (form : Form) → widths_of (columns_of e form) ≡ own_width (form_number form)
unfolding widths_of columns_of
form-width V13 Block = refl
form-width V14 Block = refl
form-width V13 Rf = refl
form-width V14 Rf = refl
form-width V13 Gradient = refl
form-width V14 Gradient = refl
form-width e Trap = refl
form-width e Adc = refl
form-width e Delay = refl
form-width e Entry = refl
form-width e Trigger = refl

range-width : {ks : List Kind} {vs : List ℤ} → InRange ks vs → length vs ≡ widths_of ks
unfolding widths_of
range-width no_more = refl
range-width (no_field r) = let e = range-width r in omega arith
range-width (one_number {k} e l m r) = let i = range-width r in let w = whole-width k e in omega arith
range-width (two-numbers k r) = let e = range-width r in omega arith

form-between : (form : Form) → (1 ≤ form_number form) × (form_number form ≤ 9)
form-between Block = (omega arith, omega arith)
form-between Rf = (omega arith, omega arith)
form-between Gradient = (omega arith, omega arith)
form-between Trap = (omega arith, omega arith)
form-between Adc = (omega arith, omega arith)
form-between Delay = (omega arith, omega arith)
form-between Entry = (omega arith, omega arith)
form-between Trigger = (omega arith, omega arith)

-- ---- A row in range
pub record Own (e : Edition) (cells : List ℤ) : Type 0 where
  pub kind : ℕ
  pub numbers : List ℤ
  pub is : cells ≡ padded kind numbers
  pub least : 1 ≤ kind
  pub most : kind ≤ 11
  pub width : length numbers ≡ own_width kind
  pub fits : length numbers ≤ 11
  pub columns : (form : Form) → kind ≡ form_number form → InRange (columns_of e form) numbers
  pub sizes : kind ≡ shape_kind → (c : ℕ) → pos (nat_abs (get_or numbers c (pos 0))) ≡ get_or numbers c (pos 0)

shape-sizes : (a b c i : ℕ) → pos (nat_abs (get_or (pos a ∷ pos b ∷ pos c ∷ []) i (pos 0))) ≡ get_or (pos a ∷ pos b ∷ pos c ∷ []) i (pos 0)
shape-sizes a b c zero = refl
shape-sizes a b c (suc zero) = refl
shape-sizes a b c (suc (suc zero)) = refl
shape-sizes a b c (suc (suc (suc i))) = refl

pub own_of : {e : Edition} {cells : List ℤ} → RowIn e cells → Own e cells
own_of {e} (by-columns form vs r) =
    let m = (form-between form).1 in
    record {
      kind = form_number form;
      numbers = vs;
      is = refl;
      least = (form-between form).0;
      most = omega arith;
      width = range-width r ∙ form-width e form;
      fits = row_fits e form r;
      columns = λ other q. subst (λ (f : Form). InRange (columns_of e f) vs) (sym (form-back form) ∙ ap form_by q ∙ form-back other) r;
      sizes = λ (q : form_number form ≡ 11). absurd (omega arith);
    }
own_of (extension type code a b c) =
    record {
      kind = extension_kind;
      numbers = pos type ∷ pos code ∷ [];
      is = refl;
      least = omega arith;
      most = omega arith;
      width = refl;
      fits = omega arith;
      columns = λ form q. absurd (no-form 8 refl form q);
      sizes = λ (q : extension_kind ≡ shape_kind). absurd (omega arith);
    }
own_of (label id flag n v a b c d f g) =
    record {
      kind = label_kind;
      numbers = pos id ∷ pos flag ∷ v ∷ pos n ∷ [];
      is = refl;
      least = omega arith;
      most = omega arith;
      width = refl;
      fits = omega arith;
      columns = λ form q. absurd (no-form 10 refl form q);
      sizes = λ (q : label_kind ≡ shape_kind). absurd (omega arith);
    }
own_of (shape id num first a b c d f) =
    record {
      kind = shape_kind;
      numbers = pos id ∷ pos num ∷ pos first ∷ [];
      is = refl;
      least = omega arith;
      most = omega arith;
      width = refl;
      fits = omega arith;
      columns = λ form q. absurd (no-form 11 refl form q);
      sizes = λ q c. shape-sizes id num first c;
    }
