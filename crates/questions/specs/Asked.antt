-- What is asked of a file beside its lines and its rows: BIG, MISSING, ROOM and SITE; and the refusal of each fault and of each rule.
use Rattle.std.specs.Prelude.{ℕ, ◌/◌, ◌^◌, Bool, false, not, ◌||◌, List, [], ◌∷◌, ltb, length, get_or}
use Rattle.shape.specs.declared.Edition.{Edition}
use Rattle.shape.specs.declared.Edition.TheVariants.{V13, V14}
use Rattle.columns.specs.Rows.{row_width}
use Rattle.places.specs.declared.Fault.{Fault}
use Rattle.places.specs.declared.Fault.TheVariants.{Line as LineFault, Version as VersionFault, Section as SectionFault, Field as FieldFault}
use Rattle.file.specs.Rows.{Placed}
use Rattle.definitions.specs.Definitions.{site_fault}
use Rattle.blocks.specs.Blocks.{is_block}
use Rattle.rules.specs.declared.Rule.{Rule}
use Rattle.rules.specs.declared.Rule.TheVariants.{Reference as ReferenceRule, Loop as LoopRule, Use as UseRule, Align as AlignRule, Long as LongRule, Outlasts as OutlastsRule}
use Rattle.answers.specs.declared.Refusal.{Refusal}
use Rattle.answers.specs.declared.Refusal.TheVariants.{Line, Version, Section, Field, Reference, Loop, Use, Align, Long, Outlasts}

-- ---- "BIG: file over 2^24 bytes, or site text over 4,096"
unfoldable pub is_big : List ℕ → List ℕ → Bool
is_big file site = ltb (2 ^ 24) (length file) || ltb 4096 (length site)

-- ---- The refusal of a line's fault, 2 to 5
abbrev pub fault_refusal : Fault → Refusal
fault_refusal LineFault = Line
fault_refusal VersionFault = Version
fault_refusal SectionFault = Section
fault_refusal FieldFault = Field

-- ---- "MISSING: no block row; in 1.4 no `[DEFINITIONS]`". A row's twelve numbers are a table of one row
unfoldable pub any_block : List Placed → Bool
any_block [] = false
any_block (r ∷ rs) = is_block r.cells 0 || any_block rs

unfoldable pub is_missing : Edition → Bool → Bool → Bool
is_missing V13 block defined = not block
is_missing V14 block defined = not block || not defined

-- ---- "ROOM: rows, or the sum of num_samples, exceed the lent tables": room numbers for rows of 12, and size samples
unfoldable pub lacks_room : ℕ → ℕ → ℕ → ℕ → Bool
lacks_room rows samples room size = ltb (room / row_width) rows || ltb size samples

-- ---- "SITE applies to 1.3 files"
unfoldable pub bad_site : Edition → List ℕ → Bool
bad_site V13 site = site_fault site
bad_site V14 site = false

-- ---- "in order": the rules over the rows, and the refusal of each, 12 to 17
unfoldable pub in_order : List Rule
in_order = ReferenceRule ∷ LoopRule ∷ UseRule ∷ AlignRule ∷ LongRule ∷ OutlastsRule ∷ []

-- rule i of this order, from 0
unfoldable pub rule_at : ℕ → Rule
rule_at i = get_or in_order i OutlastsRule

abbrev pub rule_refusal : Rule → Refusal
rule_refusal ReferenceRule = Reference
rule_refusal LoopRule = Loop
rule_refusal UseRule = Use
rule_refusal AlignRule = Align
rule_refusal LongRule = Long
rule_refusal OutlastsRule = Outlasts
