-- Facts of rows and tables that the theorem goes by. Assumes nothing.
use Prim.Native.Nat.{ℕ, ◌<◌}
use mathlib.Core.Bool.{true}
use mathlib.Core.List.{List}
use mathlib.Core.Path.{◌≡◌, refl, sym, ap, ◌∙◌}
use native.Mathlib.Omega.{arith}
use lib.IntN.{ℤ, pos}
use lib.ListN.{get_or}
use Rattle.text.proofs.Cases.{and_both}
use Rattle.signed.specs.Signed.{same_z}
use Rattle.signed.proofs.Sign.{same_z-true}
use Rattle.unit.specs.declared.Rasters.{Rasters}
use Rattle.shape.specs.declared.Edition.{Edition}
use Rattle.columns.specs.Columns.{form_number}
use Rattle.columns.specs.declared.Form.{Form}
use Rattle.columns.specs.declared.Form.TheVariants.{Block, Rf, Gradient, Trap, Adc, Delay, Entry, Trigger}
use Rattle.tables.specs.Tables.{number_at, class_at, is_row_of, first_row, NoneAgain, OnlyRow}
use Rattle.tables.proofs.Found.{found-only}
use Rattle.events.specs.Align.{micros_off, trap_off, misaligned_at}
use Rattle.file_laws.specs.Ranges.{RowIn, by-columns, extension, label, shape}
use Rattle.restated_shapes.proofs.Front.{kind-is}
use Rattle.arranged.specs.Alike.{is_anew, Alike}
use Rattle.arranged.proofs.Lookup.{pos-other, alike-kind, alike-id, alike-class}
use Rattle.arranged.proofs.Lasting.{either_way, kept-number}

-- ---- Two rows that are like a third are one
pub alike-once : {a b : List ℤ} {n k i j : ℕ} → NoneAgain a n → k < n → i < n → Alike a k b j → Alike a i b j → k ≡ i
unfolding NoneAgain
alike-once {a} {b} {n} {k} {i} {j} once h l x y =
    sym (once k h) ∙ ap (λ (c : ℤ). first_row a n c (number_at a k 1)) (alike-class x ∙ sym (alike-class y)) ∙ ap (first_row a n (class_at a i)) (alike-id x ∙ sym (alike-id y)) ∙ once i l

-- ---- A row of a class with an ID is the only one
pub row-only : (rows : List ℤ) (n : ℕ) → NoneAgain rows n → (class id : ℤ) (r : ℕ) → r < n → is_row_of rows class id r ≡ true → OnlyRow rows n class id r
unfolding NoneAgain is_row_of
row-only rows n once class id r h e =
    let p = and_both (same_z (class_at rows r) class) (same_z (number_at rows r 1) id) e in
    let found : first_row rows n class id ≡ r = rw (same_z-true (class_at rows r) class p.0, same_z-true (number_at rows r 1) id p.1) at (once r h) in
    rw found at (found-only rows n class id once (rw found h))

-- ---- A row in range has a kind
form-some : (form : Form) → form_number form ≡ 0 → ⊥
form-some Block e = omega arith
form-some Rf e = omega arith
form-some Gradient e = omega arith
form-some Trap e = omega arith
form-some Adc e = omega arith
form-some Delay e = omega arith
form-some Entry e = omega arith
form-some Trigger e = omega arith

pub kind-some : {e : Edition} {cells : List ℤ} → RowIn e cells → get_or cells 0 (pos 0) ≡ pos 0 → ⊥
kind-some (by-columns form vs r) z = pos-other (form-some form) (sym (kind-is (form_number form) vs) ∙ z)
kind-some (extension type code a b c) z = pos-other (λ e. omega arith) (sym (kind-is 8 _) ∙ z)
kind-some (label id flag n v a b c d f g) z = pos-other (λ e. omega arith) (sym (kind-is 10 _) ∙ z)
kind-some (shape id num first a b c d f) z = pos-other (λ e. omega arith) (sym (kind-is 11 _) ∙ z)

-- ---- ALIGN is asked of numbers that stay
pub misaligned-same : (q : Rasters) {a b : List ℤ} {k j : ℕ} → Alike a k b j → misaligned_at q a k ≡ misaligned_at q b j
unfolding misaligned_at trap_off micros_off is_anew same_z
misaligned-same q {a} {b} {k} {j} x =
    rw (← alike-kind x)
    (either_way (same_z (number_at a k 0) (pos (form_number Rf))) (λ i. rw (x.same 7 refl))
    (λ i. either_way (same_z (number_at a k 0) (pos (form_number Gradient))) (λ i. rw (x.same 6 refl))
    (λ i. either_way (same_z (number_at a k 0) (pos (form_number Trap))) (λ i. rw (x.same 4 refl, x.same 5 refl, x.same 6 refl, x.same 7 refl))
    (λ i. either_way (same_z (number_at a k 0) (pos (form_number Adc))) (λ i. rw (kept-number x 5 3 refl i)) (λ i. refl)))))
