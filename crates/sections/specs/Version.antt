-- The rows of VERSION.
use Rattle.std.specs.Prelude.{ℕ, cond, List, [], ◌∷◌, eqb, None, Option, Some}
use Rattle.shape.specs.declared.Edition.{Edition}
use Rattle.shape.specs.declared.Edition.TheVariants.{V13, V14}
use Rattle.heads.specs.Heads.{word_number_of}
use Rattle.places.specs.declared.Due.{Due}
use Rattle.places.specs.declared.Due.TheVariants.{Major, Minor, Revision}
use Rattle.places.specs.declared.Lines.TheVariants.{None as NoLines}
use Rattle.places.specs.declared.Place.TheVariants.{Version, Section}
use Rattle.places.specs.declared.Fault.TheVariants.{Version as VersionFault}
use Rattle.places.specs.declared.State.{State}
use Rattle.places.specs.declared.Stepped.{Stepped}
use Rattle.places.specs.Places.{went_of, refused_of, moved_of}

-- ---- VERSION: "`major`, `minor`, `revision`, alone and in this order, give no version above; the first number that rules out all four answers"
unfoldable pub major_word : List ℕ
major_word = 109 ∷ 97 ∷ 106 ∷ 111 ∷ 114 ∷ []

unfoldable pub minor_word : List ℕ
minor_word = 109 ∷ 105 ∷ 110 ∷ 111 ∷ 114 ∷ []

unfoldable pub revision_word : List ℕ
revision_word = 114 ∷ 101 ∷ 118 ∷ 105 ∷ 115 ∷ 105 ∷ 111 ∷ 110 ∷ []

unfoldable pub version_row : State → State → Option ℕ → Stepped
version_row st next (Some v) = went_of next
version_row st next None = refused_of st VersionFault

-- 3 or 4
unfoldable pub edition_of : ℕ → Edition
edition_of minor = cond (eqb minor 3) V13 V14

unfoldable pub minor_row : State → Option ℕ → Stepped
minor_row st (Some v) = went_of (record { place = Version Revision; edition = edition_of v; seen = st.seen; samples = st.samples })
minor_row st None = refused_of st VersionFault

unfoldable pub version_step : State → List (List ℕ) → Due → Stepped
version_step st fields Major = version_row st (moved_of st (Version Minor)) (word_number_of major_word 1 1 fields)
version_step st fields Minor = minor_row st (word_number_of minor_word 3 4 fields)
version_step st fields Revision = version_row st (moved_of st (Section NoLines)) (word_number_of revision_word 0 1 fields)
