-- References. "REFERENCE: a nonzero ID, or an extension type, meets no row".
use Rattle.std.specs.Prelude.{ℕ, Bool, cond, not, ◌&&◌, List, [], ◌∷◌, ltb, ℤ, pos, get_or}
use Rattle.signed.specs.Signed.{same_z}
use Rattle.shape.specs.declared.Edition.{Edition}
use Rattle.shape.specs.declared.Edition.TheVariants.{V13, V14}
use Rattle.columns.specs.Columns.{form_number}
use Rattle.columns.specs.Rows.{row_width}
use Rattle.columns.specs.declared.Form.TheVariants.{Block as BlockForm, Rf as RfForm, Gradient as GradientForm, Entry as EntryForm}
use Rattle.tables.specs.Tables.{first_such, number_at, class_number, first_row, met_number}
use Rattle.tables.specs.declared.Class.TheVariants.{Rf, Gradient, Adc, Delay, Entry, Extension, Trigger, Set, Shape, Increment}

-- ---- The class that each number of a row refers to, kind first; 0 is none
-- "BLOCKS id, duration (1.3: delay ID), rf, gx, gy, gz, adc, ext"
abbrev pub duration_ref : Edition → ℕ
duration_ref V13 = class_number Delay
duration_ref V14 = 0

abbrev pub block_refs : Edition → List ℕ
block_refs e =
    0 ∷ 0 ∷ duration_ref e ∷ class_number Rf ∷ class_number Gradient ∷ class_number Gradient ∷ class_number Gradient ∷ class_number Adc ∷ class_number Entry ∷ []

-- "RF id, amp, mag, phase shape, time": amp is two numbers
abbrev pub rf_refs : List ℕ
rf_refs = 0 ∷ 0 ∷ 0 ∷ 0 ∷ class_number Shape ∷ class_number Shape ∷ class_number Shape ∷ []

-- "GRADIENTS id, amp, shape, time"
abbrev pub gradient_refs : List ℕ
gradient_refs = 0 ∷ 0 ∷ 0 ∷ 0 ∷ class_number Shape ∷ class_number Shape ∷ []

-- "EXTENSIONS id, type, ref, next": what its type's extension is says which rows ref is one of; "refs to it unchecked" of an unknown one; where the
-- type meets no row, the type itself misses
unfoldable pub code_ref : ℤ → ℕ
code_ref code = cond (same_z code (pos 1)) (class_number Trigger) (cond (same_z code (pos 2)) (class_number Set) (cond (same_z code (pos 3)) (class_number Increment) 0))

unfoldable pub extension_ref : List ℤ → ℕ → ℤ → ℤ
extension_ref rows n type = pos (code_ref (met_number rows n (pos (class_number Extension)) type 2))

abbrev pub entry_refs : List ℤ → ℕ → ℤ → List ℤ
entry_refs rows n type = pos 0 ∷ pos 0 ∷ pos (class_number Extension) ∷ extension_ref rows n type ∷ pos (class_number Entry) ∷ []

unfoldable pub ref_of : Edition → List ℤ → ℕ → ℕ → ℕ → ℤ → ℤ
ref_of e rows n k c kind =
    cond (same_z kind (pos (form_number BlockForm))) (pos (get_or (block_refs e) c 0))
    (cond (same_z kind (pos (form_number RfForm))) (pos (get_or rf_refs c 0))
    (cond (same_z kind (pos (form_number GradientForm))) (pos (get_or gradient_refs c 0))
    (cond (same_z kind (pos (form_number EntryForm))) (get_or (entry_refs rows n (number_at rows k 2)) c (pos 0)) (pos 0))))

unfoldable pub ref_at : Edition → List ℤ → ℕ → ℕ → ℕ → ℤ
ref_at e rows n k c = ref_of e rows n k c (number_at rows k 0)

-- ---- A number of a row that refers to a class, is not 0, and meets none of n rows there
unfoldable pub misses_of : List ℤ → ℕ → ℤ → ℤ → Bool
misses_of rows n class id = not (same_z class (pos 0)) && (not (same_z id (pos 0)) && not (ltb (first_row rows n class id) n))

unfoldable pub misses_at : Edition → List ℤ → ℕ → ℕ → ℕ → Bool
misses_at e rows n k c = misses_of rows n (ref_at e rows n k c) (number_at rows k c)

-- ---- REFERENCE, asked of one row
unfoldable pub dangles_at : Edition → List ℤ → ℕ → ℕ → Bool
dangles_at e rows n k = ltb (first_such (misses_at e rows n k) 0 row_width) row_width
