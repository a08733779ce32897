-- Rows of a restated text that stand for kept rows of the source, kind by kind. Assumes nothing.
use Prim.Native.Nat.{ℕ, zero, suc, ◌≤◌, ◌<◌}
use mathlib.Core.Bool.{Bool, true, false, ◌&&◌, ◌||◌, true≢false}
use mathlib.Core.List.{List, [], ◌∷◌}
use mathlib.Core.Path.{◌≡◌, refl, sym, ap, ◌∙◌}
use native.Mathlib.Omega.{arith}
use borrow.Author.Tests.{ne_eqb}
use lib.Dec.{eqb}
use lib.IntN.{ℤ, pos, nat_abs}
use lib.ListN.{length, get_or, set, get_or-eq_default}
use Rattle.signed.specs.Signed.{same_z}
use Rattle.shape.specs.declared.Edition.{Edition}
use Rattle.shape.specs.declared.Edition.TheVariants.{V13, V14}
use Rattle.columns.specs.Columns.{columns_of, form_number, shape_kind}
use Rattle.columns.specs.Rows.{padded}
use Rattle.columns.specs.declared.Form.{Form}
use Rattle.columns.specs.declared.Form.TheVariants.{Block}
use Rattle.tables.specs.Tables.{number_at}
use Rattle.blocks.specs.Blocks.{is_block}
use Rattle.said.specs.Said.{numbers_from, numbers_at, duration_number, said_row}
use Rattle.arranged.specs.Alike.{is_anew, Alike, is_kept}
use Rattle.restated_laws.proofs.RowBack.{own_of}
use Rattle.restated_laws.proofs.SectionBack.{back_row}
use Rattle.restated_rows.proofs.Source.{Source, padded-long, alike_of, numbers-alike, anew-other, not-block, own, cells-long, own_is, kind-of, own-plain, source-numbers, own-said}
use Rattle.restated_rows.proofs.Retold.{plain-said}

-- ---- A row that stands for row k of the source
pub record KeptRow (target : Edition) (raster : ℕ) (rows : List ℤ) (count : ℕ) (row : List ℤ) (k : ℕ) : Type 0 where
  pub there : k < count
  pub kept : is_kept rows k ≡ true
  pub long : length row ≡ 12
  pub alike : Alike rows k row 0
  pub lasts : is_block rows k ≡ true → get_or row 2 (pos 0) ≡ duration_number target raster rows count k

-- ---- What each kind says
shape-place : (a b c p : ℤ) → padded shape_kind (a ∷ b ∷ p ∷ []) ≡ set (padded shape_kind (a ∷ b ∷ c ∷ [])) 3 p
unfolding padded
shape-place a b c p = refl

module _ (rows : List ℤ) (k : ℕ) where
  kind-kept : (n : ℕ) → number_at rows k 0 ≡ pos n → eqb n 6 ≡ false → is_kept rows k ≡ true
  unfolding is_kept same_z
  kind-kept n q o = rw (q, o)

  block-cells : (t : Edition) (d : ℤ) → number_at rows k 0 ≡ pos 1 → number_at rows k 10 ≡ pos 0 → number_at rows k 11 ≡ pos 0
      → back_row t Block (set (numbers_at rows k) 2 d) ≡ set (set (numbers_at rows k) 2 d) 9 (pos 0)
  unfolding numbers_at numbers_from columns_of own_of padded
  block-cells V13 d a b c = rw (a, b, c)
  block-cells V14 d a b c = rw (a, b, c)

module _ {e target : Edition} (raster : ℕ) {rows : List ℤ} {count : ℕ} {cells : ℕ → List ℤ} (s : Source e target rows count cells) (k : ℕ) (h : k < count) where
  -- ---- One that says the source's numbers, and is no block
  module _ (n : ℕ) (q : number_at rows k 0 ≡ pos n) (block : eqb n 1 ≡ false) (delay : eqb n 6 ≡ false) where
    pub kept_same : (row : List ℤ) → row ≡ cells k → KeptRow target raster rows count row k
    kept_same row i =
        let other = not-block rows k n q block in
        let w : length row ≡ 12 = ap length i ∙ cells-long s k h in
        record {
          there = h;
          kept = kind-kept rows k n q delay;
          long = w;
          alike = alike_of rows k row w (λ c l a. source-numbers s k h other c l ∙ ap (λ (r : List ℤ). get_or r c (pos 0)) (sym i));
          lasts = λ b. absurd (true≢false (sym b ∙ other));
        }

  -- by its columns
  pub kept-plain : (form : Form) → number_at rows k 0 ≡ pos (form_number form) → eqb (form_number form) 1 ≡ false → eqb (form_number form) 6 ≡ false
      → KeptRow target raster rows count (back_row target form (numbers_at rows k)) k
  kept-plain form q block delay = kept_same (form_number form) q block delay (back_row target form (numbers_at rows k)) (plain-said s k h form block q)

  -- ---- A shape, whose place is said anew
  pub kept-shape : number_at rows k 0 ≡ pos shape_kind → (p : ℤ) → KeptRow target raster rows count (padded shape_kind (pos (nat_abs (number_at rows k 1)) ∷ pos (nat_abs (number_at rows k 2)) ∷ p ∷ [])) k
  unfolding is_anew same_z
  kept-shape q p =
      let other = not-block rows k shape_kind q refl in
      let x = pos (nat_abs (number_at rows k 1)) in
      let y = pos (nat_abs (number_at rows k 2)) in
      let before = padded shape_kind (x ∷ y ∷ number_at rows k 3 ∷ []) in
      let w = padded-long shape_kind (x ∷ y ∷ p ∷ []) in
      record {
        there = h;
        kept = kind-kept rows k shape_kind q refl;
        long = w;
        alike =
            alike_of rows k (padded shape_kind (x ∷ y ∷ p ∷ [])) w
            (λ c l a.
            source-numbers s k h other c l
            ∙ ap (λ (r : List ℤ). get_or r c (pos 0)) (sym said)
            ∙ sym (anew-other rows k 3 p before (rw q) c a)
            ∙ ap (λ (r : List ℤ). get_or r c (pos 0)) (sym (shape-place x y (number_at rows k 3) p)));
        lasts = λ b. absurd (true≢false (sym b ∙ other));
      }
    where
      size : (c : ℕ) → c < 11 → number_at rows k (suc c) ≡ pos (nat_abs (number_at rows k (suc c)))
      size c l = rw (own-plain s k h (not-block rows k shape_kind q refl) c l) (sym ((own s k h).sizes (kind-of s k h shape_kind q) c))

      each : (c : ℕ) → c < 3 → number_at rows k (suc c) ≡ get_or (pos (nat_abs (number_at rows k 1)) ∷ pos (nat_abs (number_at rows k 2)) ∷ number_at rows k 3 ∷ []) c (pos 0)
      each zero l = size 0 (omega arith)
      each (suc zero) l = size 1 (omega arith)
      each (suc (suc zero)) l = refl
      each (suc (suc (suc c))) l = absurd (omega arith)

      said : padded shape_kind (pos (nat_abs (number_at rows k 1)) ∷ pos (nat_abs (number_at rows k 2)) ∷ number_at rows k 3 ∷ []) ≡ cells k
      said = own-said s k h (not-block rows k shape_kind q refl) shape_kind q _ refl each

  -- ---- A block, whose duration is said anew, and which has no ns yet
  pub kept_block : number_at rows k 0 ≡ pos (form_number Block) → KeptRow target raster rows count (back_row target Block (said_row target raster rows count k)) k
  kept_block q =
      let w = padded-long 1 _ in
      record {
        there = h;
        kept = kind-kept rows k 1 q refl;
        long = w;
        alike = alike_of rows k _ w (λ c l a. numbers-alike rows k c l ∙ sym (anew-other rows k 2 d (numbers_at rows k) (anew 2 refl) c a) ∙ sym (anew-other rows k 9 (pos 0) (set (numbers_at rows k) 2 d) (anew 9 refl) c a) ∙ ap (λ (r : List ℤ). get_or r c (pos 0)) (sym said));
        lasts = λ b. ap (λ (r : List ℤ). get_or r 2 (pos 0)) said ∙ (unfold numbers_at numbers_from in refl);
      }
    where
      d : ℤ
      d = duration_number target raster rows count k

      none-at : (c : ℕ) → 9 ≤ c → c < 11 → number_at rows k (suc c) ≡ pos 0
      none-at c g l =
          let w : length (own s k h).numbers ≡ 9 = rw (kind-of s k h 1 q) at (own s k h).width in
          own_is s k h c l (go (is_block rows k)) ∙ get_or-eq_default (own s k h).numbers (pos 0) (omega arith)
        where
          go : (b : Bool) → (b && eqb (suc c) 9) ≡ false
          go true = ne_eqb (suc c) 9 (λ (z : suc c ≡ 9). omega arith)
          go false = refl

      anew : (c : ℕ) → (eqb c 2 || eqb c 9) ≡ true → is_anew (number_at rows k 0) c ≡ true
      anew c o = unfold is_anew same_z in rw (q, o)

      said : back_row target Block (said_row target raster rows count k) ≡ set (set (numbers_at rows k) 2 d) 9 (pos 0)
      said = unfold said_row same_z in rw q (block-cells rows k target d q (none-at 9 (omega arith) (omega arith)) (none-at 10 (omega arith) (omega arith)))
