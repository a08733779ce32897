-- Extension chains. "LOOP: the chain from an entry, itself counted, is over 256 entries". "An extension chain is followed with a count of entries
-- left that falls at every hop."
use Rattle.std.specs.Prelude.{ℕ, zero, suc, Bool, true, false, cond, ◌&&◌, List, ltb, ℤ, pos}
use Rattle.signed.specs.Signed.{same_z}
use Rattle.columns.specs.Columns.{form_number}
use Rattle.columns.specs.declared.Form.TheVariants.{Entry as EntryForm}
use Rattle.tables.specs.Tables.{number_at, class_number, met_row}
use Rattle.tables.specs.declared.Class.TheVariants.{Entry}

-- the entry that follows entry k, of n rows, by its next, the fourth number behind the kind: 0 is none, and so is an ID that meets no row
unfoldable pub next_entry : List ℤ → ℕ → ℕ → ℕ
next_entry rows n k = met_row rows n (pos (class_number Entry)) (number_at rows k 4)

-- whether the chain from entry k has more entries than are left to count
unfoldable pub exceeds_of : List ℤ → ℕ → ℕ → ℕ → Bool
exceeds_of rows n zero k = true
exceeds_of rows n (suc left) k = cond (ltb (next_entry rows n k) n) (exceeds_of rows n left (next_entry rows n k)) false

-- ---- LOOP, asked of one row
unfoldable pub loops_at : List ℤ → ℕ → ℕ → Bool
loops_at rows n k = same_z (number_at rows k 0) (pos (form_number EntryForm)) && exceeds_of rows n 256 k
