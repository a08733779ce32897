-- A section line where a file stands.
use Rattle.std.specs.Prelude.{ℕ, Bool, true, false, cond, not, ◌&&◌, List, eqb, get_or, set}
use Rattle.sections.specs.Sections.{section_no, has_section, place_in}
use Rattle.places.specs.declared.Due.TheVariants.{Major}
use Rattle.places.specs.declared.Place.{Place}
use Rattle.places.specs.declared.Place.TheVariants.{Start, Version, Section, Extensions, Head, Values, Signature}
use Rattle.places.specs.declared.Fault.TheVariants.{Version as VersionFault, Section as SectionFault, Field as FieldFault}
use Rattle.places.specs.declared.State.{State}
use Rattle.places.specs.declared.Stepped.{Stepped}
use Rattle.places.specs.Places.{went_of, refused_of}

-- ---- SECTION: "unknown, repeated, not of this edition, or after `[SIGNATURE]`". VERSION: "first line that counts is not `[VERSION]`"
unfoldable pub may_enter : State → ℕ → Bool
may_enter st k = has_section st.edition k && not (get_or st.seen k false)

abbrev pub entered : State → ℕ → Place → State
entered st k place = record { place = place; edition = st.edition; seen = set st.seen k true; samples = st.samples }

unfoldable pub enter_of : State → ℕ → Stepped
enter_of st k = cond (may_enter st k) (went_of (entered st k (place_in k))) (refused_of st SectionFault)

unfoldable pub early_section : State → ℕ → Stepped
early_section st k = cond (may_enter st k) (refused_of st FieldFault) (refused_of st SectionFault)

unfoldable pub section_at : State → ℕ → Place → Stepped
section_at st k Start = cond (eqb k 1) (went_of (entered st 1 (Version Major))) (refused_of st VersionFault)
section_at st k (Version due) = refused_of st VersionFault
section_at st k (Section lines) = enter_of st k
section_at st k (Extensions listed) = enter_of st k
section_at st k (Head id n) = early_section st k
section_at st k Values = enter_of st k
section_at st k Signature = refused_of st SectionFault

unfoldable pub section_step : State → List ℕ → Stepped
section_step st line = section_at st (section_no line) st.place
