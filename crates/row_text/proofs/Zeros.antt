-- A row of twelve numbers, zeros behind its own, reads back when printed as its own numbers. Assumes nothing.
use Rattle.std.proofs.Common.{Some}
use Prim.Native.Nat.{◌-◌}
use mathlib.Core.List.{List, [], ◌∷◌, ◌++◌}
use mathlib.Core.Path.{◌≡◌, refl, ap}
use lib.IntN.{ℤ, pos}
use lib.ListN.{length, drop, replicate}
use Rattle.fields.specs.Fields.{fields_of, joined}
use Rattle.shape.specs.declared.Edition.{Edition}
use Rattle.columns.specs.Columns.{columns_of, form_number}
use Rattle.columns.specs.Rows.{padded}
use Rattle.rows.specs.Cells.{row_from}
use Rattle.row_text.specs.Printed.{texts_of, row_text}
use Rattle.columns.specs.Ranges.{InRange, no_more, no_field, one_number, two-numbers}
use Rattle.columns.specs.declared.Kind.{Kind}
use Rattle.columns.specs.declared.Form.{Form}
use Rattle.columns.proofs.Widths.{padded-own, row_fits}
use Rattle.row_text.proofs.Writing.{whole-text, decimal-text}
use Rattle.row_text.proofs.Back.{texts-whole, texts-pair, texts-absent, printed-row-back}

-- ---- What stands behind a row's own numbers is not printed
texts-none : (zs : List ℤ) → texts_of [] zs ≡ texts_of [] []
unfolding texts_of
texts-none zs = refl

texts-zeros : {ks : List Kind} {vs : List ℤ} → InRange ks vs → (zs : List ℤ) → texts_of ks (vs ++ zs) ≡ texts_of ks vs
texts-zeros no_more zs = texts-none zs
texts-zeros (no_field {ks} {vs} r) zs = rw (texts-absent ks (pos 0) (vs ++ zs), texts-absent ks (pos 0) vs) (texts-zeros r zs)
texts-zeros (one_number {k} {ks} {n} {vs} e l m r) zs =
    rw (texts-whole k ks (pos n) (vs ++ zs) e, texts-whole k ks (pos n) vs e, whole-text k (pos n ∷ (vs ++ zs)) e, whole-text k (pos n ∷ vs) e, texts-zeros r zs)
texts-zeros (two-numbers {ks} {m} {e} {vs} k r) zs =
    rw (texts-pair ks m e (vs ++ zs), texts-pair ks m e vs, decimal-text (m ∷ e ∷ (vs ++ zs)), decimal-text (m ∷ e ∷ vs), texts-zeros r zs)

pub row-zeros : {ks : List Kind} {vs : List ℤ} → InRange ks vs → (zs : List ℤ) → row_text ks (vs ++ zs) ≡ row_text ks vs
unfolding row_text
row-zeros r zs = ap joined (texts-zeros r zs)

-- ---- The law
pub padded-row-back : (edition : Edition) (form : Form) {vs : List ℤ} → InRange (columns_of edition form) vs
    → row_from (columns_of edition form) (fields_of (row_text (columns_of edition form) (drop 1 (padded (form_number form) vs)))) ≡ Some vs
padded-row-back edition form {vs} r =
    rw (padded-own (form_number form) vs (row_fits edition form r), row-zeros r (replicate (11 - length vs) (pos 0))) (printed-row-back edition form vs r)
