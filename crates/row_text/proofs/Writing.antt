-- What the writers leave: one law for each of their returns. l is the output as it came, l' what the calls left. Assumes nothing.
use Prim.Native.Nat.{ℕ, suc, ◌+◌, ◌*◌, ◌≤◌, ◌<◌}
use mathlib.Core.Bool.{Bool, true, false, cond}
use mathlib.Core.List.{List, [], ◌∷◌, ◌++◌, append-nil, append_assoc}
use mathlib.Core.Path.{◌≡◌, refl, ap, sym, ◌∙◌}
use native.Mathlib.Omega.{arith}
use native.Mathlib.Nat.{add-zero}
use native.Mathlib.Numerals.{add-one}
use lib.IntN.{ℤ, pos}
use lib.ListN.{length, get_or, drop, drop_of_length-le}
use lib.Seq.{get_or-drop, drop-cons, drop-drop}
use Rattle.fields.specs.Fields.{spaced, joined}
use Rattle.output.specs.Over.{Put}
use Rattle.output.proofs.Over.{put-none, put_then, put-length}
use Rattle.print.specs.Printed.{signed_text, decimal_text}
use Rattle.shape.specs.declared.Edition.{Edition}
use Rattle.columns.specs.Columns.{columns_of, is_absent, width_of}
use Rattle.row_text.specs.Printed.{field_text, texts_of, row_text}
use Rattle.row_text.specs.Inside.{column_text}
use Rattle.columns.specs.declared.Kind.{Kind}
use Rattle.columns.specs.declared.Kind.TheVariants.{Id, Reference, Required, Micros, Duration, Count, Natural, Decimal, Dwell, Absent}
use Rattle.columns.specs.Ranges.{is_whole}
use Rattle.columns.specs.declared.Form.{Form}
use Rattle.columns.specs.declared.Form.TheVariants.{Block, Rf, Gradient, Trap, Adc, Delay, Entry, Trigger}

-- ---- What a column holds
pub whole-text : (k : Kind) (vs : List ℤ) → is_whole k ≡ true → field_text k vs ≡ signed_text (get_or vs 0 (pos 0))
unfolding field_text
whole-text Id vs e = refl
whole-text Reference vs e = refl
whole-text Required vs e = refl
whole-text Micros vs e = refl
whole-text Duration vs e = refl
whole-text Count vs e = refl
whole-text Natural vs e = refl
whole-text Decimal vs e = absurd (let z : ◌≡◌ {A = ℕ} 0 1 = cc in omega arith)
whole-text Dwell vs e = refl
whole-text Absent vs e = absurd (let z : ◌≡◌ {A = ℕ} 0 1 = cc in omega arith)

pub decimal-text : (vs : List ℤ) → field_text Decimal vs ≡ decimal_text (record { mantissa = get_or vs 0 (pos 0); exponent = get_or vs 1 (pos 0) })
unfolding field_text
decimal-text vs = refl

-- a column that is no decimal and not absent holds a whole number
pub whole-other : (k : Kind) → (k ≡ Decimal → ⊥) → (k ≡ Absent → ⊥) → is_whole k ≡ true
whole-other Id d a = refl
whole-other Reference d a = refl
whole-other Required d a = refl
whole-other Micros d a = refl
whole-other Duration d a = refl
whole-other Count d a = refl
whole-other Natural d a = refl
whole-other Decimal d a = absurd (d refl)
whole-other Dwell d a = refl
whole-other Absent d a = absurd (a refl)

-- ---- put_field
first-at : (row : List ℤ) (w : ℕ) → get_or (drop w row) 0 (pos 0) ≡ get_or row w (pos 0)
first-at row w = get_or-drop w row 0 (pos 0) ∙ ap (λ (k : ℕ). get_or row k (pos 0)) (add-zero w)

module _ {l l' : List ℕ} {at r : ℕ} (kind : Kind) (row : List ℤ) (w : ℕ) where
  pub wrote-whole : (z : ℤ) → is_whole kind ≡ true → z ≡ get_or row w (pos 0) → Put l at (signed_text z) r l'
      → Put l at (field_text kind (drop w row)) r l'
  wrote-whole z f g p = rw (whole-text kind (drop w row) f, first-at row w, ← g) p

  pub wrote-decimal : (m e : ℤ) → kind ≡ Decimal → m ≡ get_or row w (pos 0) → e ≡ get_or row (w + 1) (pos 0)
      → Put l at (decimal_text (record { mantissa = m; exponent = e })) r l' → Put l at (field_text kind (drop w row)) r l'
  wrote-decimal m e f g h p = rw (f, decimal-text (drop w row), first-at row w, get_or-drop w row 1 (pos 0), ← g, ← h) p

  pub wrote-absent : kind ≡ Absent → Put l at [] r l' → Put l at (field_text kind (drop w row)) r l'
  unfolding field_text
  wrote-absent e p = rw e p

-- ---- put_column
module _ {l : List ℕ} {at : ℕ} (kind : Kind) (vs : List ℤ) where
  pub column-none : {l' : List ℕ} {r : ℕ} → is_absent kind ≡ true → Put l at [] r l' → Put l at (column_text kind vs) r l'
  unfolding column_text
  column-none e p = rw e p

  pub column-some : {l₁ l₂ : List ℕ} {r₁ r₂ : ℕ} → is_absent kind ≡ false → Put l at (32 ∷ []) r₁ l₁ → Put l₁ r₁ (field_text kind vs) r₂ l₂
      → Put l at (column_text kind vs) r₂ l₂
  unfolding column_text
  column-some e p q = rw e (put_then p q)

-- ---- put_row
-- the columns behind the first
abbrev pub rest_text : List Kind → List ℤ → List ℕ
rest_text ks vs = spaced (texts_of ks vs)

rest-none : (vs : List ℤ) → rest_text [] vs ≡ []
unfolding spaced texts_of
rest-none vs = refl

rest_more : (k : Kind) (ks : List Kind) (vs : List ℤ) → rest_text (k ∷ ks) vs ≡ column_text k vs ++ rest_text ks (drop (width_of k) vs)
unfolding spaced texts_of column_text
rest_more k ks vs = go (is_absent k)
  where
    go : (b : Bool) → spaced (cond b (texts_of ks (drop (width_of k) vs)) (field_text k vs ∷ texts_of ks (drop (width_of k) vs))) ≡ cond b [] (32 ∷ field_text k vs) ++ spaced (texts_of ks (drop (width_of k) vs))
    go true = refl
    go false = refl

row_more : (ks : List Kind) (vs : List ℤ) → row_text (Id ∷ ks) vs ≡ field_text Id vs ++ rest_text ks (drop 1 vs)
unfolding row_text texts_of joined
row_more ks vs = refl

module _ (edition : Edition) where
  columns-lead : (form : Form) → columns_of edition form ≡ Id ∷ drop 1 (columns_of edition form)
  unfolding columns_of
  columns-lead Block = refl
  columns-lead Rf = refl
  columns-lead Gradient = refl
  columns-lead Trap = refl
  columns-lead Adc = refl
  columns-lead Delay = refl
  columns-lead Entry = refl
  columns-lead Trigger = refl

pub width_small : (k : Kind) → width_of k ≤ 2
width_small Id = omega arith
width_small Reference = omega arith
width_small Required = omega arith
width_small Micros = omega arith
width_small Duration = omega arith
width_small Count = omega arith
width_small Natural = omega arith
width_small Decimal = omega arith
width_small Dwell = omega arith
width_small Absent = omega arith

-- the first j columns stand, which end at number w of the row; l and at are as they were behind the first column
pub record Columns (ks : List Kind) (row : List ℤ) (l : List ℕ) (at : ℕ) (l' : List ℕ) (place w j : ℕ) : Type 0 where
  pub small : w ≤ 2 * j
  pub done : List ℕ
  pub put : Put l at done place l'
  pub rest : done ++ rest_text (drop j ks) (drop w row) ≡ rest_text (drop 1 ks) (drop 2 row)

pub columns-start : (ks : List Kind) (row : List ℤ) {l t l' : List ℕ} {at r : ℕ} → Put l at t r l' → Columns ks row l' r l' r 2 1
columns-start ks row {l} p =
    record {
      small = omega arith;
      done = [];
      put = put-none (omega (arith, p.place)) (omega (arith, put-length p, p.room));
      rest = refl;
    }

module _ {ks : List Kind} {row : List ℤ} {l : List ℕ} {at : ℕ} {l' : List ℕ} {place w j : ℕ} (s : Columns ks row l at l' place w j) where
  pub columns-turn : {l₂ : List ℕ} {r : ℕ} (kind : Kind) (n : ℕ) → j < length ks → kind ≡ get_or ks j Absent → n ≡ width_of kind
      → Put l' place (column_text kind (drop w row)) r l₂ → Columns ks row l at l₂ r (w + n) (j + 1)
  columns-turn kind n h e f p =
      let a = s.small in
      let b = width_small kind in
      record {
        small = omega arith;
        done = s.done ++ column_text kind (drop w row);
        put = put_then s.put p;
        rest =
            append_assoc s.done (column_text kind (drop w row)) (rest_text (drop (j + 1) ks) (drop (w + n) row))
            ∙ ap (λ (t : List ℕ). s.done ++ t) (sym (turn h e f))
            ∙ s.rest;
      }
    where
      turn : j < length ks → kind ≡ get_or ks j Absent → n ≡ width_of kind
          → rest_text (drop j ks) (drop w row) ≡ column_text kind (drop w row) ++ rest_text (drop (j + 1) ks) (drop (w + n) row)
      turn h e f = rw (drop-cons ks j Absent h, ← e, add-one j, f, ← (drop-drop (width_of kind) w row)) (rest_more kind (drop (suc j) ks) (drop w row))

  columns-end : length ks ≤ j → Put l at (rest_text (drop 1 ks) (drop 2 row)) place l'
  columns-end h =
      let e : s.done ≡ rest_text (drop 1 ks) (drop 2 row) =
      sym (append-nil s.done) ∙ ap (λ (t : List ℕ). s.done ++ t) (sym (ap (λ (q : List Kind). rest_text q (drop w row)) (drop_of_length-le ks h) ∙ rest-none (drop w row))) ∙ s.rest in
      rw e at s.put

pub columns-all : (edition : Edition) (form : Form) (row : List ℤ) {l l₁ l₂ : List ℕ} {at r₁ r₂ w j : ℕ} → Put l at (field_text Id (drop 1 row)) r₁ l₁
    → Columns (columns_of edition form) row l₁ r₁ l₂ r₂ w j → length (columns_of edition form) ≤ j → Put l at (row_text (columns_of edition form) (drop 1 row)) r₂ l₂
columns-all edition form row {l} {l₂ = l₂} {at = at} {r₂ = r₂} p s h =
    let e : row_text (columns_of edition form) (drop 1 row) ≡ field_text Id (drop 1 row) ++ rest_text (drop 1 (columns_of edition form)) (drop 2 row) =
    ap (λ (ks : List Kind). row_text ks (drop 1 row)) (columns-lead edition form)
    ∙ row_more (drop 1 (columns_of edition form)) (drop 1 row)
    ∙ ap (λ (vs : List ℤ). field_text Id (drop 1 row) ++ rest_text (drop 1 (columns_of edition form)) vs) (drop-drop 1 1 row) in
    rw e (put_then p (columns-end s h))
