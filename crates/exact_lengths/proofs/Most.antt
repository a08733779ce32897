-- The largest that a number of a row in range can be, by its column. Assumes nothing.
use Prim.Native.Nat.{ℕ, zero, suc, ◌-◌, ◌^◌, ◌≤◌}
use mathlib.Core.Bool.{Bool, true, false, cond, true≢false}
use mathlib.Core.List.{List, [], ◌∷◌}
use mathlib.Core.Path.{◌≡◌, refl, sym, ap, ◌∙◌}
use native.Mathlib.Omega.{arith}
use native.Mathlib.Nat.{le_refl}
use lib.Dec.{eqb}
use lib.IntN.{ℤ, pos, nat_abs}
use lib.ListN.{get_or}
use Rattle.shape.specs.declared.Edition.{Edition}
use Rattle.columns.specs.Columns.{columns_of, form_number, most_of, width_of}
use Rattle.columns.specs.Ranges.{InRange, no_more, no_field, one_number, two-numbers}
use Rattle.columns.specs.declared.Kind.{Kind}
use Rattle.columns.specs.declared.Form.{Form}
use Rattle.columns.specs.declared.Form.TheVariants.{Block, Rf, Gradient, Trap, Adc, Delay, Entry, Trigger}
use Rattle.columns.proofs.Widths.{whole-width, row_fits}
use Rattle.file_laws.specs.Ranges.{RowIn, by-columns, extension, label, shape}
use Rattle.tables.specs.Tables.{number_at}
use Rattle.file_laws.proofs.Padded.{kind-first, own-number}
use Rattle.exact_lengths.specs.Tables.{RowHeld}

-- ---- number c behind the kind, by the columns; a mantissa is below 10^18
abbrev first_most : Kind → ℕ
first_most k = cond (eqb (width_of k) 2) (10 ^ 18) (most_of k)

abbrev pub most_at : List Kind → ℕ → ℕ
most_at [] c = 0
most_at (k ∷ ks) zero = first_most k
most_at (k ∷ ks) (suc zero) = cond (eqb (width_of k) 2) (10 ^ 18) (most_at ks zero)
most_at (k ∷ ks) (suc (suc c)) = cond (eqb (width_of k) 2) (most_at ks c) (most_at ks (suc c))

in-most : {ks : List Kind} {vs : List ℤ} → InRange ks vs → (c : ℕ) → nat_abs (get_or vs c (pos 0)) ≤ most_at ks c
in-most no_more c = le_refl 0
in-most (no_field r) zero = le_refl 0
in-most (no_field r) (suc zero) = in-most r zero
in-most (no_field r) (suc (suc c)) = in-most r (suc c)
in-most (one_number {k} e l m r) zero = rw (whole-width k e) m
in-most (one_number {k} e l m r) (suc zero) = rw (whole-width k e) (in-most r zero)
in-most (one_number {k} e l m r) (suc (suc c)) = rw (whole-width k e) (in-most r (suc c))
in-most (two-numbers k r) zero = let d = k.digits in omega arith
in-most (two-numbers k r) (suc zero) = let d = k.power in omega arith
in-most (two-numbers k r) (suc (suc c)) = in-most r c

-- ---- a form by its number
abbrev form_by : ℕ → Form
form_by n =
    cond (eqb n 1) Block (cond (eqb n 2) Rf (cond (eqb n 3) Gradient (cond (eqb n 4) Trap (cond (eqb n 5) Adc (cond (eqb n 6) Delay (cond (eqb n 7) Entry Trigger))))))

form-back : (f : Form) → form_by (form_number f) ≡ f
form-back Block = refl
form-back Rf = refl
form-back Gradient = refl
form-back Trap = refl
form-back Adc = refl
form-back Delay = refl
form-back Entry = refl
form-back Trigger = refl

-- the kinds that have no columns
abbrev is_other : ℕ → Bool
is_other n = cond (eqb n 8) true (cond (eqb n 10) true (eqb n 11))

form-other : (f : Form) → is_other (form_number f) ≡ false
form-other Block = refl
form-other Rf = refl
form-other Gradient = refl
form-other Trap = refl
form-other Adc = refl
form-other Delay = refl
form-other Entry = refl
form-other Trigger = refl

same_kind : {a b : ℕ} → pos a ≡ pos b → a ≡ b
same_kind e = ap nat_abs e

not-other : (f : Form) (n : ℕ) → is_other n ≡ true → n ≡ form_number f → ⊥
not-other f n o e = true≢false (sym o ∙ ap is_other e ∙ form-other f)

-- ---- row k of a table
module _ (e : Edition) (form : Form) (c : ℕ) where
  by_form : (cells : List ℤ) → RowIn e cells → get_or cells 0 (pos 0) ≡ pos (form_number form) → nat_abs (get_or cells (suc c) (pos 0)) ≤ most_at (columns_of e form) c
  by_form _ (by-columns own vs r) k =
      let short = row_fits e own r in
      let same : own ≡ form = sym (form-back own) ∙ ap form_by (same_kind (sym (kind-first (form_number own) vs short) ∙ k)) ∙ form-back form in
      rw (own-number (form_number own) vs short c, ← same) (in-most r c)
  by_form _ (extension type code a b d) k = absurd (not-other form 8 refl (same_kind (sym (kind-first 8 (pos type ∷ pos code ∷ []) (omega arith)) ∙ k)))
  by_form _ (label id flag n v a b d f g i) k = absurd (not-other form 10 refl (same_kind (sym (kind-first 10 (pos id ∷ pos flag ∷ v ∷ pos n ∷ []) (omega arith)) ∙ k)))
  by_form _ (shape id num first a b d f g) k = absurd (not-other form 11 refl (same_kind (sym (kind-first 11 (pos id ∷ pos num ∷ pos first ∷ []) (omega arith)) ∙ k)))

  pub number-most : (rows : List ℤ) (k : ℕ) → RowHeld e rows k → number_at rows k 0 ≡ pos (form_number form) → nat_abs (number_at rows k (suc c)) ≤ most_at (columns_of e form) c
  number-most rows k h p = rw (h.numbers (suc c)) (by_form h.cells h.sound (sym (h.numbers 0) ∙ p))

-- "num_samples 1 to 10^6"
shape-count : (e : Edition) (cells : List ℤ) → RowIn e cells → get_or cells 0 (pos 0) ≡ pos 11 → nat_abs (get_or cells 2 (pos 0)) ≤ 10 ^ 6
shape-count e _ (by-columns own vs r) k = absurd (not-other own 11 refl (sym (same_kind (sym (kind-first (form_number own) vs (row_fits e own r)) ∙ k))))
shape-count e _ (extension type code a b d) k =
    absurd (let z : 8 ≡ 11 = same_kind (sym (kind-first 8 (pos type ∷ pos code ∷ []) (omega arith)) ∙ k) in omega arith)
shape-count e _ (label id flag n v a b d f g i) k =
    absurd (let z : 10 ≡ 11 = same_kind (sym (kind-first 10 (pos id ∷ pos flag ∷ v ∷ pos n ∷ []) (omega arith)) ∙ k) in omega arith)
shape-count e _ (shape id num first a b d f g) k = rw (own-number 11 (pos id ∷ pos num ∷ pos first ∷ []) (omega arith) 1) f

pub count_most : (e : Edition) (rows : List ℤ) (k : ℕ) → RowHeld e rows k → number_at rows k 0 ≡ pos 11 → nat_abs (number_at rows k 2) ≤ 10 ^ 6
count_most e rows k h p = rw (h.numbers 2) (shape-count e h.cells h.sound (sym (h.numbers 0) ∙ p))
