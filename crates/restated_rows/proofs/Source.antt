-- The rows of a source that is read: a row of a text is like one of them where it says its numbers, but for those that are said anew. Assumes nothing.
use Prim.Native.Nat.{ℕ, suc, ◌+◌, ◌*◌, ◌≤◌, ◌<◌}
use mathlib.Core.Bool.{Bool, true, false, ◌&&◌, true≢false}
use mathlib.Core.List.{List, ◌∷◌}
use mathlib.Core.Logic.{⊎_elim}
use mathlib.Core.Path.{◌≡◌, refl, sym, ap, ◌∙◌}
use native.Mathlib.Omega.{arith}
use lib.Dec.{eqb}
use lib.IntN.{ℤ, pos, nat_abs}
use lib.ListN.{length, get_or, set}
use lib.Seq.{length-sets, get_or-set_other, ext_get_or}
use Rattle.text.proofs.Cases.{lt-or-ge}
use Rattle.signed.specs.Signed.{same_z}
use Rattle.numeral.specs.Integer.{largest_id}
use Rattle.shape.specs.declared.Edition.{Edition}
use Rattle.shape.specs.declared.Edition.TheVariants.{V13}
use Rattle.columns.specs.Rows.{blank, padded}
use Rattle.tables.specs.Tables.{number_at, NoneAgain}
use Rattle.tables.proofs.Numbers.{number-beyond, number-there}
use Rattle.blocks.specs.Blocks.{is_block}
use Rattle.file_laws.specs.Ranges.{RowIn}
use Rattle.file_laws.proofs.Padded.{kind-first, own-number}
use Rattle.sayable.specs.Sayable.{has_time}
use Rattle.said.specs.Said.{numbers_at}
use Rattle.said.proofs.Short.{Small}
use Rattle.arranged.specs.Alike.{is_anew, Alike}
use Rattle.restated_laws.proofs.Ranging.{numbers-getD}
use Rattle.restated_rows.proofs.Own.{own_width, Own, own_of}

-- ---- What is known of a source that a target can say: its table holds rows in range by their edition, with a block's ns as the tenth number
pub record Source (e target : Edition) (rows : List ℤ) (count : ℕ) (cells : ℕ → List ℤ) : Type 0 where
  pub in-range : (k : ℕ) → k < count → RowIn e (cells k)
  pub numbers : (k c : ℕ) → k < count → c < 12 → (is_block rows k && eqb c 9) ≡ false → number_at rows k c ≡ get_or (cells k) c (pos 0)
  pub times : target ≡ V13 → (k : ℕ) → k < count → has_time rows k ≡ false
  pub once : NoneAgain rows count
  pub few : count ≤ largest_id
  pub small : Small rows

-- ---- Twelve numbers are a table of one row
pub padded-long : (kind : ℕ) (vs : List ℤ) → length (padded kind vs) ≡ 12
unfolding padded
padded-long kind vs = length-sets blank 0 (pos kind ∷ vs)

pub one-row : (cells : List ℤ) → length cells ≡ 12 → (c : ℕ) → c < 12 → get_or cells c (pos 0) ≡ number_at cells 0 c
one-row cells w c l = let z : 0 * 12 + c ≡ c = omega arith in rw z at (number-there cells 0 c (rw w (omega arith)) l)

-- ---- Rows that are alike
module _ (rows : List ℤ) (k : ℕ) where
  pub alike_of : (cells : List ℤ) → length cells ≡ 12 → ((c : ℕ) → c < 12 → is_anew (number_at rows k 0) c ≡ false → number_at rows k c ≡ get_or cells c (pos 0)) → Alike rows k cells 0
  alike_of cells w f =
      record {
        same = λ c a. ⊎_elim (λ (l : c < 12). f c l a ∙ one-row cells w c l) (λ (g : 12 ≤ c). sym (number-beyond rows k c g) ∙ number-beyond cells 0 c g) (lt-or-ge c 12);
      }

  -- its twelve numbers, and what is said anew among them
  pub numbers-alike : (c : ℕ) → c < 12 → number_at rows k c ≡ get_or (numbers_at rows k) c (pos 0)
  unfolding numbers_at
  numbers-alike c l = let z : 0 + c ≡ c = omega arith in sym (rw z at (numbers-getD rows k 0 12 c l))

  pub anew-other : (i : ℕ) (v : ℤ) (cells : List ℤ) → is_anew (number_at rows k 0) i ≡ true → (c : ℕ) → is_anew (number_at rows k 0) c ≡ false → get_or (set cells i v) c (pos 0) ≡ get_or cells c (pos 0)
  anew-other i v cells a c o = get_or-set_other cells i c v (pos 0) (λ q. true≢false (sym a ∙ ap (is_anew (number_at rows k 0)) (sym q) ∙ o))

  -- a kind other than a block's
  pub not-block : (n : ℕ) → number_at rows k 0 ≡ pos n → eqb n 1 ≡ false → is_block rows k ≡ false
  unfolding same_z
  not-block n q o = rw q o

-- ---- Row k of a source
module _ {e target : Edition} {rows : List ℤ} {count : ℕ} {cells : ℕ → List ℤ} (s : Source e target rows count cells) (k : ℕ) (h : k < count) where
  abbrev pub own : Own e (cells k)
  own = own_of (s.in-range k h)

  pub cells-long : length (cells k) ≡ 12
  cells-long = ap length own.is ∙ padded-long own.kind own.numbers

  -- its kind, and its own numbers
  and-false : (b : Bool) → (b && false) ≡ false
  and-false true = refl
  and-false false = refl

  pub kind-is : number_at rows k 0 ≡ pos own.kind
  kind-is = s.numbers k 0 h (omega arith) (and-false (is_block rows k)) ∙ ap (λ (l : List ℤ). get_or l 0 (pos 0)) own.is ∙ kind-first own.kind own.numbers own.fits

  pub own_is : (c : ℕ) → c < 11 → (is_block rows k && eqb (suc c) 9) ≡ false → number_at rows k (suc c) ≡ get_or own.numbers c (pos 0)
  own_is c l b = s.numbers k (suc c) h (omega arith) b ∙ ap (λ (l : List ℤ). get_or l (suc c) (pos 0)) own.is ∙ own-number own.kind own.numbers own.fits c

  pub kind-of : (n : ℕ) → number_at rows k 0 ≡ pos n → own.kind ≡ n
  kind-of n q = ap nat_abs (sym kind-is ∙ q)

  -- what is no block is like its own cells
  module _ (other : is_block rows k ≡ false) where
    pub own-plain : (c : ℕ) → c < 11 → number_at rows k (suc c) ≡ get_or own.numbers c (pos 0)
    own-plain c l = own_is c l (rw other)

    pub source-numbers : (c : ℕ) → c < 12 → number_at rows k c ≡ get_or (cells k) c (pos 0)
    source-numbers c l = s.numbers k c h l (rw other)

    -- a row that says its own numbers says its cells
    pub own-said : (n : ℕ) → number_at rows k 0 ≡ pos n → (vs : List ℤ) → length vs ≡ own_width n → ((c : ℕ) → c < length vs → number_at rows k (suc c) ≡ get_or vs c (pos 0)) → padded n vs ≡ cells k
    own-said n q vs w f =
        let z = kind-of n q in
        let v : length own.numbers ≡ own_width n = rw z at own.width in
        let t = own.fits in
        let same : vs ≡ own.numbers = ext_get_or (pos 0) vs own.numbers (w ∙ sym v) (λ c (l : c < length vs). sym (f c l) ∙ own-plain c (omega arith)) in
        rw (same, ← z) (sym own.is)
