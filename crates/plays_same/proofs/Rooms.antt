-- "Enough table room" exists for every text: the least of it, and that it is never more than a machine can lend. Assumes nothing.
use Prim.Native.Nat.{ℕ, ◌*◌, ◌^◌, ◌≤◌}
use mathlib.Core.Bool.{false}
use mathlib.Core.List.{List, [], ◌∷◌}
use mathlib.Core.Path.{◌≡◌, refl, ap}
use native.Mathlib.Omega.{arith}
use lib.IntN.{ℤ, pos, nat_abs}
use lib.ListN.{length}
use Rattle.signed.specs.Signed.{same_z}
use Rattle.shape.specs.declared.Edition.{Edition}
use Rattle.columns.specs.Columns.{form_number, shape_kind}
use Rattle.columns.specs.Rows.{padded}
use Rattle.columns.specs.declared.Form.{Form}
use Rattle.columns.specs.declared.Form.TheVariants.{Block, Rf, Gradient, Trap, Adc, Delay, Entry, Trigger}
use Rattle.places.specs.declared.State.{State}
use Rattle.file.specs.Whole.{verdict_of, ended}
use Rattle.file.specs.Rows.{Placed}
use Rattle.file_laws.specs.Ranges.{RowIn, by-columns, extension, label, shape, AllIn, no_rows, one_more}
use Rattle.file_laws.specs.Stacked.{shape_count}
use Rattle.file_laws.proofs.Padded.{own-number}
use Rattle.file_laws.proofs.Ranges.{rows-in-range}
use Rattle.demands.specs.Keeping.{sample_sum}
use Rattle.demands.specs.Replaying.{rows_room, samples_room, EnoughRoom}
use Rattle.restated_source.proofs.Source.{rows_few}
use Rattle.restated_shapes.proofs.Front.{kind-is}

-- ---- The least room
pub least-room : (text : List ℕ) → EnoughRoom text (rows_room text) (samples_room text)
least-room text = record { rows = omega arith; samples = omega arith }

-- ---- Rows: one a line at most, twelve numbers each
pub rows-room : (text : List ℕ) → length text ≤ 2 ^ 24 → rows_room text ≤ 12 * 2 ^ 24
unfolding rows_room
rows-room text h = let f = rows_few text in omega arith

-- ---- Samples: "num_samples 1 to 10^6" for each
no-shape : (kind : ℕ) (vs : List ℤ) → same_z (pos kind) (pos 11) ≡ false → shape_count (padded kind vs) ≡ 0
unfolding shape_count
no-shape kind vs e = rw (kind-is kind vs, e)

form-none : (form : Form) (vs : List ℤ) → shape_count (padded (form_number form) vs) ≡ 0
unfolding same_z
form-none Block vs = no-shape 1 vs refl
form-none Rf vs = no-shape 2 vs refl
form-none Gradient vs = no-shape 3 vs refl
form-none Trap vs = no-shape 4 vs refl
form-none Adc vs = no-shape 5 vs refl
form-none Delay vs = no-shape 6 vs refl
form-none Entry vs = no-shape 7 vs refl
form-none Trigger vs = no-shape 9 vs refl

shape-count : (id num first : ℕ) → shape_count (padded shape_kind (pos id ∷ pos num ∷ pos first ∷ [])) ≡ num
unfolding shape_count same_z
shape-count id num first = rw (kind-is shape_kind (pos id ∷ pos num ∷ pos first ∷ [])) (ap nat_abs (own-number shape_kind (pos id ∷ pos num ∷ pos first ∷ []) (omega arith) 1))

row-samples : {e : Edition} {cells : List ℤ} → RowIn e cells → shape_count cells ≤ 10 ^ 6
unfolding same_z
row-samples (by-columns form vs r) = let z = form-none form vs in omega arith
row-samples (extension type code a b c) = let z = no-shape 8 (pos type ∷ pos code ∷ []) refl in omega arith
row-samples (label id flag n v a b c d f g) = let z = no-shape 10 (pos id ∷ pos flag ∷ v ∷ pos n ∷ []) refl in omega arith
row-samples (shape id num first a b c d f) =
    let z = shape-count id num first in
    omega arith

samples-in : {e : Edition} {rs : List Placed} → AllIn e rs → sample_sum rs ≤ length rs * 10 ^ 6
unfolding sample_sum
samples-in no_rows = omega arith
samples-in (one_more r rs) = let a = row-samples r in let b = samples-in rs in omega arith

pub samples-room : (text : List ℕ) (end : State) → verdict_of text ≡ ended end → length text ≤ 2 ^ 24 → samples_room text ≤ 2 ^ 24 * 10 ^ 6
unfolding samples_room
samples-room text end v h = let f = rows_few text in let s = samples-in (rows-in-range text end v) in omega arith
