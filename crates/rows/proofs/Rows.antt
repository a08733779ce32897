-- One column of a row, one turn of the columns' loop, and a row laid behind its kind. Assumes nothing.
use Rattle.std.proofs.Common.{Option, None, Some}
use Prim.Native.Nat.{ℕ, suc, ◌+◌, ◌≤◌, ◌<◌}
use mathlib.Core.Bool.{true, false}
use mathlib.Core.List.{List, [], ◌∷◌}
use mathlib.Core.Path.{◌≡◌, refl, sym, ap, ◌∙◌}
use native.Mathlib.Omega.{arith}
use native.Mathlib.Numerals.{add-one}
use lib.IntN.{ℤ, pos}
use lib.ListN.{length, get_or, drop, set, drop_of_length-le}
use lib.Seq.{sets, drop-cons}
use Rattle.fields.specs.Fields.{fields_of}
use Rattle.shape.specs.declared.Edition.{Edition}
use Rattle.columns.specs.Columns.{columns_of, form_number, is_absent, width_of}
use Rattle.columns.specs.Rows.{blank, padded}
use Rattle.rows.specs.Cells.{cell_of, with, row_from, row_is}
use Rattle.columns.specs.Inside.{widths_of}
use Rattle.rows.specs.Inside.{CellIs}
use Rattle.columns.specs.declared.Kind.{Kind}
use Rattle.columns.specs.declared.Kind.TheVariants.{Absent}
use Rattle.columns.specs.declared.Form.{Form}
use Rattle.columns.proofs.Widths.{room-all}
use Rattle.rows.specs.declared.Cell.{Cell}
use Rattle.rows.specs.declared.Cell.TheVariants.{One, Two}

-- ---- One column
module _ (kind : Kind) (ks : List Kind) where
  pub row-absent : (fs : List (List ℕ)) → is_absent kind ≡ true → row_from (kind ∷ ks) fs ≡ with (Some (One (pos 0))) (row_from ks fs)
  unfolding row_from
  row-absent [] e = rw e
  row-absent (f ∷ fs) e = rw e

  pub row-short : is_absent kind ≡ false → row_from (kind ∷ ks) [] ≡ None
  unfolding row_from
  row-short e = rw e

  pub row_field : (f : List ℕ) (fs : List (List ℕ)) → is_absent kind ≡ false → row_from (kind ∷ ks) (f ∷ fs) ≡ with (cell_of kind f) (row_from ks fs)
  unfolding row_from
  row_field f fs e = rw e

pub with-bad : (c : (Option Cell)) (o : Option (List ℤ)) → c ≡ None → with c o ≡ None
unfolding with
with-bad c o e = rw e

pub with-same : (c d : (Option Cell)) (o : Option (List ℤ)) → c ≡ d → with c o ≡ with d o
with-same c d o e = rw e

-- ---- No row is the same of every form
pub no_row : (form : Form) (o : Option (List ℤ)) → o ≡ None → None ≡ row_is form o
unfolding row_is
no_row form o e = rw e

-- ---- The loop over the columns: what is read lies in the cells, and the rest is still to be laid behind it
unfoldable pub laid : List ℤ → ℕ → Option (List ℤ) → Option (List ℤ)
laid cells w None = None
laid cells w (Some vs) = Some (sets cells w vs)

-- the cells before the first column: the kind, and zeros
abbrev pub begun : Form → List ℤ
begun form = set blank 0 (pos (form_number form))

pub record Reading (form : Form) (line : List ℕ) (ks : List Kind) (cells : List ℤ) (at w j : ℕ) : Type 0 where
  pub room : w + widths_of (drop j ks) ≤ 12
  pub rest : laid cells w (row_from (drop j ks) (fields_of (drop at line))) ≡ laid (begun form) 1 (row_from ks (fields_of line))

pub start : (edition : Edition) (form : Form) (line : List ℕ) (cells : List ℤ) → cells ≡ begun form → Reading form line (columns_of edition form) cells 0 1 0
start edition form line cells e = record { room = room-all edition form; rest = rw e }

laid_one : (cells : List ℤ) (w : ℕ) (v : ℤ) (o : Option (List ℤ)) → laid cells w (with (Some (One v)) o) ≡ laid (set cells w v) (suc w) o
unfolding laid with
laid_one cells w v None = refl
laid_one cells w v (Some vs) = refl

laid-two : (cells : List ℤ) (w : ℕ) (a b : ℤ) (o : Option (List ℤ)) → laid cells w (with (Some (Two a b)) o) ≡ laid (set (set cells w a) (suc w) b) (suc (suc w)) o
unfolding laid with
laid-two cells w a b None = refl
laid-two cells w a b (Some vs) = refl

laid_nil : (cells : List ℤ) (w : ℕ) → laid cells w (Some []) ≡ Some cells
unfolding laid
laid_nil cells w = refl

laid_none : (o : Option (List ℤ)) (a b : List ℤ) (i j : ℕ) → laid a i o ≡ laid b j None → o ≡ None
unfolding laid
laid_none None a b i j e = refl
laid_none (Some vs) a b i j e = absurd (let z : ◌≡◌ {A = ℕ} 0 1 = cc in omega arith)

laid-some : (form : Form) (o : Option (List ℤ)) (cells : List ℤ) → laid (begun form) 1 o ≡ Some cells → row_is form o ≡ Some cells
unfolding laid row_is padded
laid-some form None cells e = absurd (let z : ◌≡◌ {A = ℕ} 0 1 = cc in omega arith)
laid-some form (Some vs) cells e = let q : sets (begun form) 1 vs ≡ cells = cc in rw q

widths-cut : (ks : List Kind) (j : ℕ) → j < length ks → widths_of (drop j ks) ≡ width_of (get_or ks j Absent) + widths_of (drop (suc j) ks)
unfolding widths_of
widths-cut ks j h = rw (drop-cons ks j Absent h)

module _ (form : Form) (line : List ℕ) (ks : List Kind) (cells : List ℤ) (at w j : ℕ) (r : Reading form line ks cells at w j) (h : j < length ks) where
  pub fits-cell : (width : ℕ) → width_of (get_or ks j Absent) ≡ width → w + width ≤ 12
  fits-cell width e = let q = r.room in omega (arith, widths-cut ks j h)

  taken-rest : (c : (Option Cell)) (width behind : ℕ) → CellIs line at (get_or ks j Absent) c width behind
      → laid cells w (with c (row_from (drop (suc j) ks) (fields_of (drop behind line)))) ≡ laid (begun form) 1 (row_from ks (fields_of line))
  taken-rest c width behind t = ap (laid cells w) (sym (t.rest (drop (suc j) ks)) ∙ rw (drop-cons ks j Absent h)) ∙ r.rest

  pub turn_one : (v : ℤ) (behind : ℕ) → CellIs line at (get_or ks j Absent) (Some (One v)) 1 behind → Reading form line ks (set cells w v) behind (w + 1) (j + 1)
  turn_one v behind t =
      let q = r.room in
      let d = t.wide in
      let e : w + 1 + widths_of (drop (j + 1) ks) ≤ 12 = rw (add-one j) (omega (arith, widths-cut ks j h)) in
      record {
        room = e;
        rest = rw (add-one w, add-one j) (sym (laid_one cells w v (row_from (drop (suc j) ks) (fields_of (drop behind line)))) ∙ taken-rest (Some (One v)) 1 behind t);
      }

  pub turn_two : (a b : ℤ) (behind : ℕ) → CellIs line at (get_or ks j Absent) (Some (Two a b)) 2 behind → Reading form line ks (set (set cells w a) (w + 1) b) behind (w + 2) (j + 1)
  turn_two a b behind t =
      let q = r.room in
      let d = t.wide in
      let e : w + 2 + widths_of (drop (j + 1) ks) ≤ 12 = rw (add-one j) (omega (arith, widths-cut ks j h)) in
      let s : w + 2 ≡ suc (suc w) = omega arith in
      record {
        room = e;
        rest = rw (s, add-one w, add-one j) (sym (laid-two cells w a b (row_from (drop (suc j) ks) (fields_of (drop behind line)))) ∙ taken-rest (Some (Two a b)) 2 behind t);
      }

  pub bad : ((ls : List Kind) → row_from (get_or ks j Absent ∷ ls) (fields_of (drop at line)) ≡ None) → row_from ks (fields_of line) ≡ None
  bad f = laid_none (row_from ks (fields_of line)) (begun form) cells 1 w (sym r.rest ∙ ap (laid cells w) (rw (drop-cons ks j Absent h) (f (drop (suc j) ks))))

-- behind the last column
module _ (form : Form) (line : List ℕ) (ks : List Kind) (cells : List ℤ) (at w j : ℕ) (r : Reading form line ks cells at w j) (h : length ks ≤ j) where
  pub good-end : fields_of (drop at line) ≡ [] → row_is form (row_from ks (fields_of line)) ≡ Some cells
  unfolding row_from
  good-end e = laid-some form (row_from ks (fields_of line)) cells (sym r.rest ∙ rw (e, drop_of_length-le ks h) (laid_nil cells w))

  pub long-end : (f : List ℕ) (fs : List (List ℕ)) → fields_of (drop at line) ≡ f ∷ fs → row_from ks (fields_of line) ≡ None
  unfolding row_from
  long-end f fs e = laid_none (row_from ks (fields_of line)) (begun form) cells 1 w (sym r.rest ∙ rw (e, drop_of_length-le ks h))
