-- The definitions of a file and of a site. "A value sought by key is a part of the file's text or of the site's, the file's if both, empty if
-- neither".
use Rattle.std.specs.Prelude.{ℕ, Bool, false, cond, ◌||◌, List, [], ◌∷◌, ◌++◌, eqb, length}
use Rattle.text.specs.Lines.{lines_of}
use Rattle.text.specs.Marks.{mark_of, breaks_line}
use Rattle.text.specs.Words.{same_bytes}
use Rattle.text.specs.declared.Mark.{Mark}
use Rattle.text.specs.declared.Mark.TheVariants.{Blank, Comment, Section, Plain}
use Rattle.grammar.specs.Definitions.{key_of, value_of, is_definition}
use Rattle.places.specs.Places.{fresh}
use Rattle.places.specs.declared.Fault.TheVariants.{Line as LineFault, Section as SectionFault, Field as FieldFault}
use Rattle.places.specs.declared.Found.{Found}
use Rattle.places.specs.declared.Found.TheVariants.{Nothing, Definition as FoundDefinition, Fault as FoundFault}
use Rattle.places.specs.declared.State.{State}
use Rattle.places.specs.declared.Stepped.{Stepped}
use Rattle.file.specs.Whole.{is_fault, is_defined, gathered}

-- ---- A definition, with its line
pub record Definition : Type 0 where
  pub line : ℕ
  pub key : List ℕ
  pub value : List ℕ

unfoldable pub definition_at : ℕ → List ℕ → Stepped → List Definition
definition_at n l r = cond (is_defined r.found) (record { line = n; key = key_of l; value = value_of l } ∷ []) []

abbrev pub definitions_from : State → ℕ → List (List ℕ) → List Definition
definitions_from st n ls = gathered definition_at st n ls

unfoldable pub definitions_of : List ℕ → List Definition
definitions_of file = definitions_from fresh 1 (lines_of file)

-- ---- SITE: "a line of the site text breaks LINE, repeats a key, or is no definition, comment or blank"
unfoldable pub site_mark : List ℕ → Mark → Found
site_mark line Blank = Nothing
site_mark line Comment = Nothing
site_mark line Section = FoundFault SectionFault
site_mark line Plain = cond (is_definition line) FoundDefinition (FoundFault FieldFault)

unfoldable pub site_line : List ℕ → Found
site_line line = cond (breaks_line line) (FoundFault LineFault) (site_mark line (mark_of line))

-- its definitions, up to the first line at fault; lines are not counted here
unfoldable pub site_at : List ℕ → List Definition
site_at l = cond (is_defined (site_line l)) (record { line = 0; key = key_of l; value = value_of l } ∷ []) []

unfoldable pub site_in : List (List ℕ) → List Definition
site_in [] = []
site_in (l ∷ ls) = cond (is_fault (site_line l)) [] (site_at l ++ site_in ls)

unfoldable pub site_definitions : List ℕ → List Definition
site_definitions site = site_in (lines_of site)

unfoldable pub any_fault : List (List ℕ) → Bool
any_fault [] = false
any_fault (l ∷ ls) = is_fault (site_line l) || any_fault ls

-- a key that is met again
unfoldable pub is_named : List ℕ → List Definition → Bool
is_named key [] = false
is_named key (d ∷ ds) = same_bytes d.key key || is_named key ds

unfoldable pub repeats : List Definition → Bool
repeats [] = false
repeats (d ∷ ds) = is_named d.key ds || repeats ds

unfoldable pub site_fault : List ℕ → Bool
site_fault site = any_fault (lines_of site) || repeats (site_definitions site)

-- ---- The value of a key: the first definition's; none is empty
unfoldable pub sought : List ℕ → List Definition → List ℕ
sought key [] = []
sought key (d ∷ ds) = cond (same_bytes d.key key) d.value (sought key ds)

unfoldable pub either_of : List ℕ → List ℕ → List ℕ
either_of first second = cond (eqb (length first) 0) second first

unfoldable pub definition_of : List ℕ → List ℕ → List ℕ → List ℕ
definition_of file site key = either_of (sought key (definitions_of file)) (sought key (site_definitions site))
