-- The sections, one after another. Assumes nothing.
use Prim.Native.Nat.{ℕ}
use mathlib.Core.List.{List, []}
use mathlib.Core.Path.{◌≡◌}
use lib.IntN.{ℤ}
use Rattle.shape.specs.declared.Edition.{Edition}
use Rattle.shape.specs.declared.Edition.TheVariants.{V13, V14}
use Rattle.section_text.specs.Sections.{delay_section}
use Rattle.restated.specs.Text.{delays_for}

-- ---- DELAYS where the target has them
module _ (target : Edition) (rows : List ℤ) (n : ℕ) where
  pub delays-13 : target ≡ V13 → delay_section rows n ≡ delays_for target rows n
  unfolding delays_for
  delays-13 e = rw e

  pub delays-14 : target ≡ V14 → [] ≡ delays_for target rows n
  unfolding delays_for
  delays-14 e = rw e
