-- The rows that reading finds in a restated text are those that are arranged here. Assumes nothing.
use Prim.Native.Nat.{ℕ, suc}
use mathlib.Core.Bool.{Bool}
use mathlib.Core.List.{List}
use mathlib.Core.Path.{◌≡◌}
use lib.IntN.{ℤ}
use Rattle.shape.specs.declared.Edition.{Edition}
use Rattle.places.specs.declared.Lines.TheVariants.{Shapes}
use Rattle.places.specs.declared.Listed.{Listed}
use Rattle.places.specs.declared.Place.TheVariants.{Section}
use Rattle.places.specs.declared.State.{State}
use Rattle.sections.specs.Entering.{entered}
use Rattle.file.specs.Rows.{Placed, rows_of}
use Rattle.restated.specs.Text.{restated_text}
use Rattle.restated_laws.proofs.TextBack.{Readable, ListedFrom, listed_state, delays_state, delays_end}
use Rattle.restated_laws.proofs.WholeBack.{restated-rows}
use Rattle.restated_rows.proofs.Source.{Source}
use Rattle.restated_rows.proofs.Sections.{listed-section}
use Rattle.restated_rows.proofs.Whole.{Restating, out}

module _ (target : Edition) (raster : ℕ) (file site : List ℕ) (rows : List ℤ) (count : ℕ) (samples : List ℤ) (r : Readable target raster file site rows count samples) {rs : List Placed} {some : Bool}
    {last : Listed} {end : ℕ} (x : ListedFrom target rows count (delays_end target raster file site rows count samples) rs some last end) where
  -- where SHAPES begins
  abbrev pub in_shapes : State
  in_shapes = entered (listed_state some last (delays_state target raster file site rows count samples)) 9 (Section Shapes)

  pub restated-out : rows_of (restated_text target raster file site rows count samples) ≡ out target raster file site rows count samples rs in_shapes (suc end)
  restated-out = restated-rows target raster file site rows count samples r x

  -- what is restated
  pub restating : {e : Edition} {cells : ℕ → List ℤ} → Source e target rows count cells → Restating target raster rows count rs
  restating {e} {cells} s = record { e = e; cells = cells; source = s; listed = listed-section raster s x }
