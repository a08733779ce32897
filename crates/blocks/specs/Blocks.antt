-- Lengths of chains and blocks, in ns.
use Rattle.std.specs.Prelude.{ℕ, zero, suc, ◌*◌, ◌^◌, max, Bool, cond, ◌&&◌, List, ltb, ℤ, pos}
use Rattle.signed.specs.Signed.{same_z}
use Rattle.unit.specs.Time.{capped}
use Rattle.unit.specs.declared.Rasters.{Rasters}
use Rattle.shape.specs.declared.Edition.{Edition}
use Rattle.shape.specs.declared.Edition.TheVariants.{V13, V14}
use Rattle.columns.specs.Columns.{form_number}
use Rattle.columns.specs.declared.Form.TheVariants.{Block as BlockForm}
use Rattle.tables.specs.Tables.{number_at, class_number, met_row}
use Rattle.tables.specs.declared.Class.TheVariants.{Entry}
use Rattle.chains.specs.Chains.{next_entry}
use Rattle.references.specs.References.{extension_ref, ref_at}
use Rattle.lengths.specs.Lengths.{count_at, length_at}

-- ---- What a reference meets: an event, or a chain of entries, which lasts as long as its longest event
unfoldable pub met_length : Rasters → List ℤ → ℕ → List ℤ → ℤ → ℤ → ℕ
met_length q rows n samples class id = cond (ltb (met_row rows n class id) n) (length_at q rows n samples (met_row rows n class id)) 0

unfoldable pub entry_length : Rasters → List ℤ → ℕ → List ℤ → ℕ → ℕ
entry_length q rows n samples k = met_length q rows n samples (extension_ref rows n (number_at rows k 2)) (number_at rows k 3)

-- from row k on, with so many entries left to count; row n is none
unfoldable pub chain_length : Rasters → List ℤ → ℕ → List ℤ → ℕ → ℕ → ℕ
chain_length q rows n samples zero k = 0
chain_length q rows n samples (suc left) k =
    cond (ltb k n) (max (entry_length q rows n samples k) (chain_length q rows n samples left (next_entry rows n k))) 0

unfoldable pub reference_length : Rasters → List ℤ → ℕ → List ℤ → ℤ → ℤ → ℕ
reference_length q rows n samples class id =
    cond (same_z class (pos (class_number Entry))) (chain_length q rows n samples 256 (met_row rows n class id)) (met_length q rows n samples class id)

-- ---- The longest event of block k: of its numbers 2 to 8, those that refer to something
unfoldable pub longest_of : (ℕ → ℕ) → ℕ → ℕ → ℕ
longest_of lasts c zero = 0
longest_of lasts c (suc m) = max (lasts c) (longest_of lasts (suc c) m)

unfoldable pub number_length : Edition → Rasters → List ℤ → ℕ → List ℤ → ℕ → ℕ → ℕ
number_length e q rows n samples k c = reference_length q rows n samples (ref_at e rows n k c) (number_at rows k c)

unfoldable pub longest_event : Edition → Rasters → List ℤ → ℕ → List ℤ → ℕ → ℕ
longest_event e q rows n samples k = longest_of (number_length e q rows n samples k) 2 7

-- ---- "A 1.4 block lasts duration times BlockDurationRaster; a 1.3 block its longest event, the delay event too."
unfoldable pub block_length : Edition → Rasters → List ℤ → ℕ → List ℤ → ℕ → ℕ
block_length V13 q rows n samples k = longest_event V13 q rows n samples k
block_length V14 q rows n samples k = count_at rows k 2 * q.block.0

abbrev pub is_block : List ℤ → ℕ → Bool
is_block rows k = same_z (number_at rows k 0) (pos (form_number BlockForm))

-- ---- "LONG: a block over 10^12 ns", asked of one row
unfoldable pub is_long : Edition → Rasters → List ℤ → ℕ → List ℤ → ℕ → Bool
is_long e q rows n samples k = is_block rows k && ltb (10 ^ 12) (block_length e q rows n samples k)

-- ---- "OUTLASTS: an event longer than its 1.4 block", asked of one row. A time past the end of the scale counts as the longest: no row in range
-- has one
unfoldable pub outlasts_at : Rasters → List ℤ → ℕ → List ℤ → ℕ → Bool
outlasts_at q rows n samples k = is_block rows k && ltb (capped (block_length V14 q rows n samples k)) (capped (longest_event V14 q rows n samples k))
