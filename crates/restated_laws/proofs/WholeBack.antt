-- A restated text, read as a file: no line is at fault and none is due at its end, its rows are those that were said, and so are its definitions.
-- Assumes nothing.
use Prim.Native.Nat.{ℕ, zero, suc}
use mathlib.Core.Bool.{Bool, true, false, cond, true≢false}
use mathlib.Core.List.{List, [], ◌++◌, append-nil}
use mathlib.Core.Path.{◌≡◌, refl, sym, ap, ◌∙◌}
use native.Mathlib.Omega.{arith}
use lib.IntN.{ℤ, pos, nat_abs}
use Rattle.text.specs.Lines.{lines_of}
use Rattle.shape.specs.declared.Edition.{Edition}
use Rattle.columns.specs.Columns.{shape_kind}
use Rattle.tables.specs.Tables.{number_at}
use Rattle.places.specs.Places.{fresh, ending_of}
use Rattle.places.specs.declared.Found.{Found}
use Rattle.places.specs.declared.Found.TheVariants.{Nothing}
use Rattle.places.specs.declared.Lines.TheVariants.{Shapes}
use Rattle.places.specs.declared.Listed.{Listed}
use Rattle.places.specs.declared.Place.{Place}
use Rattle.places.specs.declared.Place.TheVariants.{Start, Version, Section, Extensions, Head, Values, Signature}
use Rattle.places.specs.declared.State.{State}
use Rattle.sections.specs.Entering.{entered}
use Rattle.file.specs.Whole.{ended, judged, verdict_from, verdict_of, gathered}
use Rattle.file.specs.Rows.{Placed, rows_from, rows_of}
use Rattle.definitions.specs.Definitions.{Definition, definitions_from, definitions_of}
use Rattle.sayable.specs.Sayable.{is_kind}
use Rattle.said.specs.Said.{has_kind}
use Rattle.restated.specs.Text.{restated_text}
use Rattle.restated_laws.proofs.Going.{Goes, goes-verdict, goes-rows, goes-definitions}
use Rattle.restated_laws.proofs.SectionBack.{may_leave}
use Rattle.restated_laws.proofs.ShapeBack.{behind_shape, shapes_given, shapes_state}
use Rattle.restated_laws.proofs.DefinedBack.{numbered}
use Rattle.restated_laws.proofs.DefinedSection.{said_definitions}
use Rattle.restated_laws.proofs.TextBack.{ListedFrom, listed_state, listed-open, delays_state, delays_end, open-delays, first_rows, Readable, text-back}

-- ---- A file may end where a section may
leaves-ends : (p : Place) → may_leave p ≡ true → ending_of p ≡ Nothing
unfolding may_leave
leaves-ends Start e = absurd (true≢false (sym e))
leaves-ends (Version due) e = absurd (true≢false (sym e))
leaves-ends (Section lines) e = refl
leaves-ends (Extensions listed) e = refl
leaves-ends (Head id n) e = absurd (true≢false (sym e))
leaves-ends Values e = refl
leaves-ends Signature e = absurd (true≢false (sym e))

-- ---- A whole text that is read without a fault
module _ {text : List ℕ} {rs : List Placed} {ds : List Definition} {end : State} {m : ℕ} (p : Goes fresh 1 text rs ds end m) where
  pub file-ends : may_leave end.place ≡ true → verdict_of text ≡ ended end
  unfolding verdict_of verdict_from lines_of judged
  file-ends l =
      ap (λ (t : List ℕ). verdict_from fresh 1 (lines_of t)) (sym (append-nil text))
      ∙ goes-verdict [] p
      ∙ ap (λ (f : Found). judged f 0 (ended end)) (leaves-ends end.place l)

  pub file-rows : rows_of text ≡ rs
  unfolding rows_of gathered lines_of
  file-rows = ap (λ (t : List ℕ). rows_from fresh 1 (lines_of t)) (sym (append-nil text)) ∙ goes-rows [] p ∙ append-nil rs

  pub file-defines : definitions_of text ≡ ds
  unfolding definitions_of gathered lines_of
  file-defines = ap (λ (t : List ℕ). definitions_from fresh 1 (lines_of t)) (sym (append-nil text)) ∙ goes-definitions [] p ∙ append-nil ds

-- ---- A section may begin behind shapes
module _ (target : Edition) (rows samples : List ℤ) where
  shapes-leave : (st : State) (k m : ℕ) → may_leave st.place ≡ true → may_leave (shapes_state target rows samples st k m).place ≡ true
  unfolding shapes_state may_leave
  shapes-leave st k zero h = h
  shapes-leave st k (suc m) h = go (is_kind rows k (pos shape_kind)) (λ st' h'. shapes-leave st' (suc k) m h')
    where
      go : (b : Bool) → ((st' : State) → may_leave st'.place ≡ true → may_leave (shapes_state target rows samples st' (suc k) m).place ≡ true)
          → may_leave (cond b (shapes_state target rows samples (behind_shape st (nat_abs (number_at rows k 2))) (suc k) m) (shapes_state target rows samples st (suc k) m)).place ≡ true
      go true f = f (behind_shape st (nat_abs (number_at rows k 2))) refl
      go false f = f st h

-- ---- A restated text
module _ (target : Edition) (raster : ℕ) (file site : List ℕ) (rows : List ℤ) (count : ℕ) (samples : List ℤ) (r : Readable target raster file site rows count samples) {rs : List Placed} {b : Bool} {last : Listed} {end : ℕ}
    (x : ListedFrom target rows count (delays_end target raster file site rows count samples) rs b last end) where
  abbrev behind_listed : State
  behind_listed = listed_state b last (delays_state target raster file site rows count samples)

  abbrev in_shapes : State
  in_shapes = entered behind_listed 9 (Section Shapes)

  unfoldable pub end_state : State
  end_state = cond (has_kind (pos shape_kind) rows count) (shapes_state target rows samples in_shapes 0 count) behind_listed

  end_leaves : may_leave end_state.place ≡ true
  unfolding end_state
  end_leaves = go (has_kind (pos shape_kind) rows count)
    where
      go : (c : Bool) → may_leave (cond c (shapes_state target rows samples in_shapes 0 count) behind_listed).place ≡ true
      go true = shapes-leave target rows samples in_shapes 0 count (unfold may_leave in refl)
      go false = (listed-open (open-delays target raster file site rows count samples r 9 (omega arith) (omega arith)) b last).leaves

  pub restated-ends : verdict_of (restated_text target raster file site rows count samples) ≡ ended end_state
  unfolding end_state
  restated-ends = file-ends (text-back target raster file site rows count samples r x) end_leaves

  pub restated-rows : rows_of (restated_text target raster file site rows count samples)
      ≡ first_rows target raster file site rows count samples (rs ++ shapes_given target rows samples in_shapes (suc end) 0 count)
  restated-rows = file-rows (text-back target raster file site rows count samples r x)

  pub restated-definitions : definitions_of (restated_text target raster file site rows count samples) ≡ numbered 7 (said_definitions target file site)
  restated-definitions = file-defines (text-back target raster file site rows count samples r x)
