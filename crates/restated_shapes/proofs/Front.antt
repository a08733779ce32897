-- The rows that a restated text gives in front of SHAPES, and what holds for all of them by their kinds. Assumes nothing.
use Prim.Native.Nat.{ℕ, zero, suc}
use mathlib.Core.Bool.{Bool, true, false, cond}
use mathlib.Core.List.{List, [], ◌∷◌, ◌++◌}
use mathlib.Core.Path.{◌≡◌, refl, ◌∙◌}
use native.Mathlib.Omega.{arith}
use lib.Dec.{eqb}
use lib.IntN.{ℤ, pos}
use lib.ListN.{get_or, set}
use lib.Seq.{sets, get_or-set_other}
use Rattle.shape.specs.declared.Edition.{Edition}
use Rattle.shape.specs.declared.Edition.TheVariants.{V13, V14}
use Rattle.columns.specs.Columns.{form_number, extension_kind, label_kind, shape_kind}
use Rattle.columns.specs.Rows.{blank, padded}
use Rattle.columns.specs.declared.Form.{Form}
use Rattle.columns.specs.declared.Form.TheVariants.{Block, Rf, Gradient, Trap, Adc, Delay, Entry, Trigger}
use Rattle.places.specs.declared.Listed.{Listed}
use Rattle.file.specs.Rows.{Placed}
use Rattle.restated_laws.proofs.SectionBack.{given_rows}
use Rattle.restated_laws.proofs.ListedBack.{Listing, list-end, list-other, list-entry, list-extension, list-trigger, list-label}
use Rattle.restated_laws.proofs.TextBack.{form_rows, event_rows, delay_rows, ListedFrom, none-listed, some-listed, first_rows}

-- ---- Something that holds for the numbers of each row
pub data AllCells (P : List ℤ → Type 0) : List Placed → Type 0 where
  no_cells : AllCells P []
  more-cells : {r : Placed} {rs : List Placed} → P r.cells → AllCells P rs → AllCells P (r ∷ rs)

module _ {P : List ℤ → Type 0} where
  pub all_append : {rs ss : List Placed} → AllCells P rs → AllCells P ss → AllCells P (rs ++ ss)
  all_append no_cells b = b
  all_append (more-cells p a) b = more-cells p (all_append a b)

  all-given : (is : ℕ → Bool) (cells : ℕ → List ℤ) → ((k : ℕ) → P (cells k)) → (n k m : ℕ) → AllCells P (given_rows is cells n k m)
  unfolding given_rows
  all-given is cells p n k zero = no_cells
  all-given is cells p n k (suc m) = go (is k) (all-given is cells p (suc n) (suc k) m) (all-given is cells p n (suc k) m)
    where
      go : (b : Bool) {rs ss : List Placed} → AllCells P rs → AllCells P ss → AllCells P (cond b (record { line = n; cells = cells k } ∷ rs) ss)
      go true x y = more-cells (p k) x
      go false x y = y

-- ---- The kind of a row stands first in it
kind-kept : (vs l : List ℤ) (i : ℕ) → get_or (sets l (suc i) vs) 0 (pos 0) ≡ get_or l 0 (pos 0)
kind-kept [] l i = refl
kind-kept (v ∷ vs) l i = kind-kept vs (set l (suc i) v) (suc i) ∙ get_or-set_other l (suc i) 0 v (pos 0) (λ e. omega arith)

pub kind-is : (kind : ℕ) (vs : List ℤ) → get_or (padded kind vs) 0 (pos 0) ≡ pos kind
unfolding padded
kind-is kind vs = kind-kept vs (set blank 0 (pos kind)) 0

-- no row that is read by columns is of a kind whose lines have a form of their own
pub no-extension : (form : Form) → eqb (form_number form) extension_kind ≡ false
no-extension Block = refl
no-extension Rf = refl
no-extension Gradient = refl
no-extension Trap = refl
no-extension Adc = refl
no-extension Delay = refl
no-extension Entry = refl
no-extension Trigger = refl

pub no-shape : (form : Form) → eqb (form_number form) shape_kind ≡ false
no-shape Block = refl
no-shape Rf = refl
no-shape Gradient = refl
no-shape Trap = refl
no-shape Adc = refl
no-shape Delay = refl
no-shape Entry = refl
no-shape Trigger = refl

-- ---- What holds for all rows that are read by columns holds for all that stand in front of EXTENSIONS
module _ {P : List ℤ → Type 0} (columns : (form : Form) (vs : List ℤ) → P (padded (form_number form) vs)) where
  module _ (target : Edition) (raster : ℕ) (rows : List ℤ) (count : ℕ) where
    form-all : (form : Form) (n : ℕ) → AllCells P (form_rows target raster rows count form n)
    unfolding form_rows
    form-all form n = all-given _ _ (λ k. columns form _) (suc n) 0 count

    events-all : (n : ℕ) → AllCells P (event_rows target raster rows count n)
    unfolding event_rows
    events-all n = all_append (form-all Rf _) (all_append (form-all Gradient _) (all_append (form-all Trap _) (form-all Adc _)))

  delays-all : (rows : List ℤ) (count : ℕ) (target : Edition) (n : ℕ) → AllCells P (delay_rows rows count target n)
  unfolding delay_rows
  delays-all rows count V13 n = all-given _ _ (λ k. columns Delay _) (suc n) 0 count
  delays-all rows count V14 n = no_cells

  pub first-all : (target : Edition) (raster : ℕ) (file site : List ℕ) (rows : List ℤ) (count : ℕ) (samples : List ℤ) {more : List Placed} → AllCells P more
      → AllCells P (first_rows target raster file site rows count samples more)
  unfolding first_rows
  first-all target raster file site rows count samples a =
      all_append (form-all target raster rows count Block _) (all_append (events-all target raster rows count _) (all_append (delays-all rows count target _) a))

  -- and what holds for those of `extension` and of labels too, for those of EXTENSIONS
  module _ (extensions : (type code : ℕ) → P (padded extension_kind (pos type ∷ pos code ∷ []))) (labels : (vs : List ℤ) → P (padded label_kind vs)) where
    listing-all : {e : Edition} {rows : List ℤ} {listed last : Listed} {n k m end : ℕ} {rs : List Placed} → Listing e rows listed n k m rs last end → AllCells P rs
    listing-all list-end = no_cells
    listing-all (list-other a b c d x) = listing-all x
    listing-all (list-entry a r x) = more-cells (columns Entry _) (listing-all x)
    listing-all (list-extension type code a b t c l m o h x) = more-cells (extensions type code) (listing-all x)
    listing-all (list-trigger a b c r x) = more-cells (columns Trigger _) (listing-all x)
    listing-all (list-label increment id label v a b c d i f w j l m g o h value x) = more-cells (labels _) (listing-all x)

    pub listed-all : {target : Edition} {rows : List ℤ} {count n end : ℕ} {rs : List Placed} {b : Bool} {last : Listed} → ListedFrom target rows count n rs b last end → AllCells P rs
    listed-all (none-listed h) = no_cells
    listed-all (some-listed h x) = listing-all x
