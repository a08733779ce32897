-- A row of a table that holds a row in range, by its kind: a row of a form has its columns' numbers, a shape its ID and its count. Assumes nothing.
use Prim.Native.Nat.{ℕ, ◌≤◌}
use mathlib.Core.Bool.{Bool, true, false, cond, ◌||◌, true≢false}
use mathlib.Core.List.{List, [], ◌∷◌}
use mathlib.Core.Path.{◌≡◌, refl, sym, ap, subst, ◌∙◌}
use native.Mathlib.Omega.{arith}
use lib.Dec.{eqb}
use lib.IntN.{ℤ, pos, nat_abs}
use Rattle.numeral.specs.Integer.{largest_id}
use Rattle.shape.specs.declared.Edition.{Edition}
use Rattle.columns.specs.Columns.{columns_of, form_number, extension_kind, label_kind, shape_kind, most_of}
use Rattle.columns.specs.Ranges.{InRange}
use Rattle.columns.specs.declared.Form.{Form}
use Rattle.columns.specs.declared.Form.TheVariants.{Block, Rf, Gradient, Trap, Adc, Delay, Entry, Trigger}
use Rattle.columns.specs.declared.Kind.TheVariants.{Count}
use Rattle.columns.proofs.Widths.{row_fits}
use Rattle.tables.specs.Tables.{number_at}
use Rattle.file_laws.specs.Ranges.{RowIn, by-columns, extension, label, shape}
use Rattle.restated_source.proofs.Held.{RowHolds, RowIs, row_is, own_of}

-- ---- A form by its number; extensions, labels and shapes have none
abbrev form_by : ℕ → Form
form_by n =
    cond (eqb n 1) Block (cond (eqb n 2) Rf (cond (eqb n 3) Gradient (cond (eqb n 4) Trap (cond (eqb n 5) Adc (cond (eqb n 6) Delay (cond (eqb n 7) Entry Trigger))))))

form-back : (f : Form) → form_by (form_number f) ≡ f
form-back Block = refl
form-back Rf = refl
form-back Gradient = refl
form-back Trap = refl
form-back Adc = refl
form-back Delay = refl
form-back Entry = refl
form-back Trigger = refl

abbrev is_formless : ℕ → Bool
is_formless n = eqb n extension_kind || (eqb n label_kind || eqb n shape_kind)

form-number : (f : Form) → is_formless (form_number f) ≡ false
form-number Block = refl
form-number Rf = refl
form-number Gradient = refl
form-number Trap = refl
form-number Adc = refl
form-number Delay = refl
form-number Entry = refl
form-number Trigger = refl

formless : (f : Form) (n : ℕ) → is_formless n ≡ true → n ≡ form_number f → ⊥
formless f n o e = true≢false (sym o ∙ ap is_formless e ∙ form-number f)

-- ---- Row k of a table, of a kind
module _ (e : Edition) (rows : List ℤ) (k : ℕ) where
  same_kind : {a b : ℕ} → number_at rows k 0 ≡ pos a → number_at rows k 0 ≡ pos b → a ≡ b
  same_kind p q = ap nat_abs (sym p ∙ q)

  pub record FormRow (form : Form) : Type 0 where
    pub vs : List ℤ
    pub range : InRange (columns_of e form) vs
    pub is : RowIs rows k (form_number form) vs

  pub form-row : {cells : List ℤ} (form : Form) → RowIn e cells → RowHolds rows k cells → number_at rows k 0 ≡ pos (form_number form) → FormRow form
  form-row form (by-columns own vs r) held p =
      let w = row_is rows k (form_number own) vs (row_fits e own r) held in
      let same : own ≡ form = sym (form-back own) ∙ ap form_by (same_kind w.kind-is p) ∙ form-back form in
      subst FormRow same (record { vs = vs; range = r; is = w })
  form-row form (extension type code a b d) held p =
      absurd (formless form 8 refl (same_kind (row_is rows k 8 (pos type ∷ pos code ∷ []) (omega arith) held).kind-is p))
  form-row form (label id flag n v a b d f g i) held p =
      absurd (formless form 10 refl (same_kind (row_is rows k 10 (pos id ∷ pos flag ∷ v ∷ pos n ∷ []) (omega arith) held).kind-is p))
  form-row form (shape id num first a b d f g) held p =
      absurd (formless form 11 refl (same_kind (row_is rows k 11 (pos id ∷ pos num ∷ pos first ∷ []) (omega arith) held).kind-is p))

  pub record ShapeRow : Type 0 where
    pub id : ℕ
    pub num : ℕ
    pub is-id : number_at rows k 1 ≡ pos id
    pub is-num : number_at rows k 2 ≡ pos num
    pub least : 1 ≤ id
    pub most : id ≤ largest_id
    pub some : 1 ≤ num
    pub few : num ≤ most_of Count

  pub shape_row : {cells : List ℤ} → RowIn e cells → RowHolds rows k cells → number_at rows k 0 ≡ pos shape_kind → ShapeRow
  shape_row (by-columns own vs r) held p =
      absurd (formless own 11 refl (same_kind p (row_is rows k (form_number own) vs (row_fits e own r) held).kind-is))
  shape_row (extension type code a b d) held p =
      absurd (let z : 8 ≡ 11 = same_kind (row_is rows k 8 (pos type ∷ pos code ∷ []) (omega arith) held).kind-is p in omega arith)
  shape_row (label id flag n v a b d f g i) held p =
      absurd (let z : 10 ≡ 11 = same_kind (row_is rows k 10 (pos id ∷ pos flag ∷ v ∷ pos n ∷ []) (omega arith) held).kind-is p in omega arith)
  shape_row (shape id num first a b d f g) held p =
      let w = row_is rows k 11 (pos id ∷ pos num ∷ pos first ∷ []) (omega arith) held in
      record {
        id = id;
        num = num;
        is-id = own_of w (λ (q : 11 ≡ 1). omega arith) 0 (omega arith);
        is-num = own_of w (λ (q : 11 ≡ 1). omega arith) 1 (omega arith);
        least = a;
        most = b;
        some = d;
        few = f;
      }
