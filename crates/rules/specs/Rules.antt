-- The rules over the tables. "Then 6 to 19 in order, each over the whole file, at the first line concerned". SHAPE is asked where shapes are
-- expanded, and DUPLICATE over rows and words.
use Rattle.std.specs.Prelude.{ℕ, Bool, false, List, ℤ}
use Rattle.unit.specs.declared.Rasters.{Rasters}
use Rattle.shape.specs.declared.Edition.{Edition}
use Rattle.shape.specs.declared.Edition.TheVariants.{V13, V14}
use Rattle.tables.specs.Tables.{first_such}
use Rattle.chains.specs.Chains.{loops_at}
use Rattle.references.specs.References.{dangles_at}
use Rattle.events.specs.Use.{misfits_at}
use Rattle.events.specs.Align.{misaligned_at}
use Rattle.blocks.specs.Blocks.{is_long, outlasts_at}
use Rattle.rules.specs.declared.Rule.{Rule}
use Rattle.rules.specs.declared.Rule.TheVariants.{Reference, Loop, Use, Align, Long, Outlasts}

-- ---- The paper's number of each rule
abbrev pub rule_number : Rule → ℕ
rule_number Reference = 12
rule_number Loop = 13
rule_number Use = 14
rule_number Align = 15
rule_number Long = 16
rule_number Outlasts = 17

-- ---- "ALIGN: 1.4 alignment", "OUTLASTS: an event longer than its 1.4 block": in 1.3 no row breaks them
unfoldable pub align_broken : Edition → Rasters → List ℤ → ℕ → Bool
align_broken V13 q rows k = false
align_broken V14 q rows k = misaligned_at q rows k

unfoldable pub outlasts_broken : Edition → Rasters → List ℤ → ℕ → List ℤ → ℕ → Bool
outlasts_broken V13 q rows n samples k = false
outlasts_broken V14 q rows n samples k = outlasts_at q rows n samples k

-- ---- Whether row k, of n rows, breaks a rule
unfoldable pub is_broken : Rule → Edition → Rasters → List ℤ → ℕ → List ℤ → ℕ → Bool
is_broken Reference e q rows n samples k = dangles_at e rows n k
is_broken Loop e q rows n samples k = loops_at rows n k
is_broken Use e q rows n samples k = misfits_at rows n samples k
is_broken Align e q rows n samples k = align_broken e q rows k
is_broken Long e q rows n samples k = is_long e q rows n samples k
is_broken Outlasts e q rows n samples k = outlasts_broken e q rows n samples k

-- ---- "at the first line concerned": the first of n rows that breaks a rule; n if none does
unfoldable pub first_broken : Rule → Edition → Rasters → List ℤ → ℕ → List ℤ → ℕ
first_broken rule e q rows n samples = first_such (is_broken rule e q rows n samples) 0 n
