-- What a section line answers, by the answers of the code's tests. Assumes nothing.
use Prim.Native.Nat.{ℕ}
use mathlib.Core.Bool.{Bool, true, false, not, ◌&&◌}
use mathlib.Core.Path.{◌≡◌, refl}
use lib.ListN.{get_or}
use Rattle.sections.specs.Sections.{has_section, place_in}
use Rattle.places.specs.Places.{went_of, refused_of}
use Rattle.sections.specs.Entering.{may_enter, entered, enter_of, early_section}
use Rattle.places.specs.declared.State.{State}
use Rattle.places.specs.declared.Fault.TheVariants.{Section, Field}

-- ---- a section
module _ (st : State) (k : ℕ) where
  pub enter-not-had : has_section st.edition k ≡ false → false ≡ may_enter st k
  unfolding may_enter
  enter-not-had e = rw e

  pub enter-had : has_section st.edition k ≡ true → not (get_or st.seen k false) ≡ may_enter st k
  unfolding may_enter
  enter-had e = rw e

  pub enters : may_enter st k ≡ true → went_of (entered st k (place_in k)) ≡ enter_of st k
  unfolding enter_of
  enters e = rw e

  pub enters-not : may_enter st k ≡ false → refused_of st Section ≡ enter_of st k
  unfolding enter_of
  enters-not e = rw e

  pub early-field : may_enter st k ≡ true → refused_of st Field ≡ early_section st k
  unfolding early_section
  early-field e = rw e

  pub early-section : may_enter st k ≡ false → refused_of st Section ≡ early_section st k
  unfolding early_section
  early-section e = rw e

-- a section that may begin is one that the edition has
pub may-had : (st : State) (k : ℕ) → may_enter st k ≡ true → has_section st.edition k ≡ true
unfolding may_enter
may-had st k e = go (has_section st.edition k) e
  where
    go : (b : Bool) → b && not (get_or st.seen k false) ≡ true → b ≡ true
    go true e = refl
    go false e = e
