-- UNSAYABLE, asked of the tables of a file that was read, with the length of each block in its row.
use Rattle.unit.specs.declared.Micros.{Micros}
use Rattle.unit.specs.declared.RasterCount.{RasterCount}
use Rattle.std.specs.Prelude.{ℕ, ◌^◌, Bool, true, false, not, ◌&&◌, ◌||◌, List, eqb, ltb, ℤ, pos, nat_abs, None, Option, Some}
use Rattle.signed.specs.Signed.{same_z}
use Rattle.unit.specs.Time.{in_micros, on_raster}
use Rattle.unit.specs.declared.Rasters.{Rasters}
use Rattle.shape.specs.declared.Edition.{Edition}
use Rattle.shape.specs.declared.Edition.TheVariants.{V13, V14}
use Rattle.columns.specs.Columns.{form_number, extension_kind, label_kind}
use Rattle.columns.specs.declared.Form.TheVariants.{Block, Rf, Gradient}
use Rattle.tables.specs.Tables.{first_such, number_at}
use Rattle.events.specs.Align.{misaligned_at}

unfoldable pub is_kind : List ℤ → ℕ → ℤ → Bool
is_kind rows k kind = same_z (number_at rows k 0) kind

-- number c of row k, of a kind, is another than 0
unfoldable pub has_number : List ℤ → ℕ → ℤ → ℕ → Bool
has_number rows k kind c = is_kind rows k kind && not (same_z (number_at rows k c) (pos 0))

-- a block's ns
unfoldable pub nanos_at : List ℤ → ℕ → ℕ
nanos_at rows k = nat_abs (number_at rows k 9)

-- ---- "an unknown extension is declared"
unfoldable pub is_unknown : List ℤ → ℕ → Bool
is_unknown rows k = is_kind rows k (pos extension_kind) && same_z (number_at rows k 2) (pos 0)

-- ---- "for 1.3.1, a time ID is nonzero"
unfoldable pub has_time : List ℤ → ℕ → Bool
has_time rows k = has_number rows k (pos (form_number Rf)) 6 || has_number rows k (pos (form_number Gradient)) 5

-- "a block is not whole µs"
unfoldable pub is_between : Option Micros → Bool
is_between (Some m) = false
is_between None = true

unfoldable pub off_micros : List ℤ → ℕ → Bool
off_micros rows k = is_kind rows k (pos (form_number Block)) && is_between (in_micros (nanos_at rows k))

-- "a label row names ONCE"
unfoldable pub names_once : List ℤ → ℕ → Bool
names_once rows k = is_kind rows k (pos label_kind) && same_z (number_at rows k 4) (pos 13)

-- "an RF or gradient raster differs from the site's"
unfoldable pub differ : Rasters → Rasters → Bool
differ q s = not (eqb q.gradient.0 s.gradient.0) || not (eqb q.rf.0 s.rf.0)

-- ---- "for 1.4.1, .. a block is not 0 to 10^9 whole BlockDurationRasters"
unfoldable pub not_steps : Option RasterCount → Bool
not_steps (Some c) = ltb (10 ^ 9) c.0
not_steps None = true

unfoldable pub off_raster : Rasters → List ℤ → ℕ → Bool
off_raster q rows k = is_kind rows k (pos (form_number Block)) && not_steps (on_raster (nanos_at rows k) q.block.0)

-- ---- What a target cannot say of row k
unfoldable pub unsaid13 : List ℤ → ℕ → Bool
unsaid13 rows k = has_time rows k || (off_micros rows k || names_once rows k)

-- "ALIGN fails" by the rasters that apply
unfoldable pub unsaid14 : Rasters → List ℤ → ℕ → Bool
unsaid14 q rows k = misaligned_at q rows k || off_raster q rows k

unfoldable pub unsaid_in : Edition → Rasters → List ℤ → ℕ → Bool
unsaid_in V13 q rows k = unsaid13 rows k
unsaid_in V14 q rows k = unsaid14 q rows k

unfoldable pub unsaid : Edition → Rasters → List ℤ → ℕ → Bool
unsaid target q rows k = is_unknown rows k || unsaid_in target q rows k

unfoldable pub any_unsaid : Edition → Rasters → List ℤ → ℕ → Bool
any_unsaid target q rows n = ltb (first_such (unsaid target q rows) 0 n) n

-- ---- UNSAYABLE: of n rows, the file's rasters q and the site's s
unfoldable pub differ_in : Edition → Rasters → Rasters → Bool
differ_in V13 q s = differ q s
differ_in V14 q s = false

unfoldable pub unsayable : Edition → Rasters → Rasters → List ℤ → ℕ → Bool
unsayable target q s rows n = any_unsaid target q rows n || differ_in target q s
