-- The sections of a restated text hold the source's rows that belong to them, in their order. Assumes nothing.
use Prim.Native.Nat.{ℕ, zero, suc, ◌+◌, ◌≤◌, ◌<◌}
use mathlib.Core.Bool.{Bool, true, false, cond, ◌||◌}
use mathlib.Core.List.{List, [], ◌∷◌}
use mathlib.Core.Path.{◌≡◌, refl}
use native.Mathlib.Omega.{arith}
use lib.Dec.{eqb}
use lib.IntN.{ℤ, pos, nat_abs}
use lib.ListN.{get_or}
use Rattle.text.proofs.Lines.{or_left, or_right}
use Rattle.signed.proofs.Sign.{same_z-true}
use Rattle.shape.specs.declared.Edition.{Edition}
use Rattle.columns.specs.Columns.{form_number, extension_kind, label_kind, shape_kind}
use Rattle.columns.specs.declared.Form.{Form}
use Rattle.columns.specs.declared.Form.TheVariants.{Block, Entry, Trigger}
use Rattle.tables.specs.Tables.{number_at}
use Rattle.blocks.specs.Blocks.{is_block}
use Rattle.places.specs.declared.Listed.{Listed}
use Rattle.places.specs.declared.State.{State}
use Rattle.file.specs.Rows.{Placed}
use Rattle.sayable.specs.Sayable.{is_kind}
use Rattle.said.specs.Said.{numbers_at, said_row, is_of_form, has_kind}
use Rattle.extension_text.specs.Extensions.{has_listed}
use Rattle.restated_laws.proofs.SectionBack.{back_row, such-none-of}
use Rattle.restated_laws.proofs.ListedBack.{Listing, list-end, list-other, list-entry, list-extension, list-trigger, list-label}
use Rattle.restated_laws.proofs.ShapeBack.{behind_shape, shape_row, shapes_given}
use Rattle.restated_laws.proofs.TextBack.{form_rows, ListedFrom, none-listed, some-listed}
use Rattle.restated_rows.proofs.Sectioned.{Section, no_more, left_out, stands_here, given-section}
use Rattle.restated_rows.proofs.Source.{Source, not-block, own-said}
use Rattle.restated_rows.proofs.Standing.{KeptRow, kept_same, kept-plain, kept-shape, kept_block}

-- ---- The rows that EXTENSIONS holds
unfoldable pub is_listed : List ℤ → ℕ → Bool
is_listed rows k = is_kind rows k (pos (form_number Entry)) || (is_kind rows k (pos extension_kind) || (is_kind rows k (pos (form_number Trigger)) || is_kind rows k (pos label_kind)))

pub kind-true : (rows : List ℤ) (k : ℕ) (kind : ℤ) → is_kind rows k kind ≡ true → number_at rows k 0 ≡ kind
unfolding is_kind
kind-true rows k kind i = same_z-true (number_at rows k 0) kind i

none_of : (rows : List ℤ) (count : ℕ) → has_listed rows count ≡ false → (j : ℕ) → j < count → is_listed rows j ≡ false
unfolding has_listed is_listed
none_of rows count z j l =
    let b = or_right (has 7) (has 8 || (has 9 || has 10)) z in
    let c = or_right (has 8) (has 9 || has 10) b in
    rw (none 7 (or_left (has 7) (has 8 || (has 9 || has 10)) z), none 8 (or_left (has 8) (has 9 || has 10) b), none 9 (or_left (has 9) (has 10) c), none 10 (or_right (has 9) (has 10) c))
  where
    has : ℕ → Bool
    has kind = has_kind (pos kind) rows count

    none : (kind : ℕ) → has kind ≡ false → is_kind rows j (pos kind) ≡ false
    none kind n = unfold has_kind in such-none-of (λ k. is_kind rows k (pos kind)) count n j l

module _ {e target : Edition} (raster : ℕ) {rows : List ℤ} {count : ℕ} {cells : ℕ → List ℤ} (s : Source e target rows count cells) where
  abbrev Kept : List ℤ → ℕ → Type 0
  Kept = KeptRow target raster rows count

  -- ---- BLOCKS, and the sections of other forms
  pub block-section : (n : ℕ) → Section (is_of_form Block rows) Kept 0 count (form_rows target raster rows count Block n)
  unfolding form_rows
  block-section n =
      given-section (is_of_form Block rows) (λ k. back_row target Block (said_row target raster rows count k)) Kept count (λ k h i. kept_block raster s k h (kind-true rows k (pos 1) i)) (suc n) 0 count (omega arith)

  plain_row : (k : ℕ) → is_block rows k ≡ false → said_row target raster rows count k ≡ numbers_at rows k
  unfolding said_row
  plain_row k o = rw o

  pub form-section : (form : Form) → eqb (form_number form) 1 ≡ false → eqb (form_number form) 6 ≡ false → (n : ℕ) → Section (is_of_form form rows) Kept 0 count (form_rows target raster rows count form n)
  unfolding form_rows
  form-section form block delay n =
      given-section (is_of_form form rows) (λ k. back_row target form (said_row target raster rows count k)) Kept count
      (λ k h i.
      let q = kind-true rows k (pos (form_number form)) i in
      rw (plain_row k (not-block rows k (form_number form) q block)) (kept-plain raster s k h form q block delay))
      (suc n) 0 count (omega arith)

  -- ---- EXTENSIONS
  pub listing-section : {listed last : Listed} {n k m end : ℕ} {rs : List Placed} → Listing target rows listed n k m rs last end → k + m ≤ count → Section (is_listed rows) Kept k m rs
  unfolding is_listed
  listing-section list-end h = no_more
  listing-section (list-other {k = k} a b c d x) h = left_out {k = k} (rw (a, b, c, d)) (listing-section x (omega arith))
  listing-section (list-entry {k = k} a r x) h = stands_here {k = k} (rw a) (kept-plain raster s k (omega arith) Entry (kind-true rows k (pos 7) a) refl refl) (listing-section x (omega arith))
  listing-section (list-extension {k = k} type code a b t c l m o g x) h =
      let q = kind-true rows k (pos 8) b in
      stands_here {k = k} (rw (a, b)) (kept_same raster s k (omega arith) 8 q refl refl _ (own-said s k (omega arith) (not-block rows k 8 q refl) 8 q (pos type ∷ pos code ∷ []) refl each)) (listing-section x (omega arith))
    where
      each : (i : ℕ) → i < 2 → number_at rows k (suc i) ≡ get_or (pos type ∷ pos code ∷ []) i (pos 0)
      each zero l = t
      each (suc zero) l = c
      each (suc (suc i)) l = absurd (omega arith)
  listing-section (list-trigger {k = k} a b c r x) h =
      stands_here {k = k} (rw (a, b, c)) (kept-plain raster s k (omega arith) Trigger (kind-true rows k (pos 9) c) refl refl) (listing-section x (omega arith))
  listing-section (list-label {k = k} increment id label v a b c d i f w j l m g o p value x) h =
      let q = kind-true rows k (pos 10) d in
      stands_here {k = k} (rw (a, b, c, d))
      (kept_same raster s k (omega arith) 10 q refl refl _ (own-said s k (omega arith) (not-block rows k 10 q refl) 10 q (pos id ∷ pos (cond increment 1 0) ∷ v ∷ pos label ∷ []) refl each))
      (listing-section x (omega arith))
    where
      each : (y : ℕ) → y < 4 → number_at rows k (suc y) ≡ get_or (pos id ∷ pos (cond increment 1 0) ∷ v ∷ pos label ∷ []) y (pos 0)
      each zero l = i
      each (suc zero) l = f
      each (suc (suc zero)) l = w
      each (suc (suc (suc zero))) l = j
      each (suc (suc (suc (suc y)))) l = absurd (omega arith)

  -- none where there are none
  none-section : (is : ℕ → Bool) (k m : ℕ) → ((j : ℕ) → k ≤ j → j < k + m → is j ≡ false) → Section is Kept k m []
  none-section is k zero f = no_more
  none-section is k (suc m) f = left_out (f k (omega arith) (omega arith)) (none-section is (suc k) m (λ j (a : suc k ≤ j) (b : j < suc k + m). f j (omega arith) (omega arith)))

  pub listed-section : {n end : ℕ} {rs : List Placed} {some : Bool} {last : Listed} → ListedFrom target rows count n rs some last end → Section (is_listed rows) Kept 0 count rs
  listed-section (none-listed z) = none-section (is_listed rows) 0 count (λ j a (b : j < 0 + count). none_of rows count z j (omega arith))
  listed-section (some-listed z x) = listing-section x (omega arith)

  -- ---- SHAPES
  pub shapes-section : (samples : List ℤ) (st : State) (n k m : ℕ) → k + m ≤ count → Section (λ j. is_kind rows j (pos shape_kind)) Kept k m (shapes_given target rows samples st n k m)
  unfolding shapes_given
  shapes-section samples st n k zero h = no_more
  shapes-section samples st n k (suc m) h = go (is_kind rows k (pos shape_kind)) refl (shapes-section samples (behind_shape st (nat_abs (number_at rows k 2))) _ (suc k) m (omega arith)) (shapes-section samples st n (suc k) m (omega arith))
    where
      go : (b : Bool) → is_kind rows k (pos shape_kind) ≡ b → {xs ys : List Placed} → Section (λ j. is_kind rows j (pos shape_kind)) Kept (suc k) m xs → Section (λ j. is_kind rows j (pos shape_kind)) Kept (suc k) m ys
          → Section (λ j. is_kind rows j (pos shape_kind)) Kept k (suc m) (cond b (record { line = n; cells = shape_row st (nat_abs (number_at rows k 1)) (nat_abs (number_at rows k 2)) } ∷ xs) ys)
      go true i x y = stands_here i (kept-shape raster s k (omega arith) (kind-true rows k (pos 11) i) _) x
      go false i x y = left_out i y
