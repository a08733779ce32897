-- What the inner functions answer. Nothing here needs to be believed: laws lead from these to the definitions of the other files.
use Rattle.std.specs.Prelude.{ℕ, Bool, ◌||◌, List, ℤ}
use Rattle.unit.specs.declared.Rasters.{Rasters}
use Rattle.shape.specs.declared.Edition.{Edition}
use Rattle.rules.specs.Rules.{is_broken}
use Rattle.rules.specs.declared.Rule.TheVariants.{Reference, Loop, Use, Align, Long, Outlasts}

-- whether row k, of n rows, breaks any rule but USE, and any at all
unfoldable pub breaks_other : Edition → Rasters → List ℤ → ℕ → List ℤ → ℕ → Bool
breaks_other e q rows n samples k =
    is_broken Reference e q rows n samples k || (is_broken Loop e q rows n samples k || (is_broken Align e q rows n samples k || (is_broken Long e q rows n samples k || is_broken Outlasts e q rows n samples k)))

unfoldable pub breaks_any : Edition → Rasters → List ℤ → ℕ → List ℤ → ℕ → Bool
breaks_any e q rows n samples k = breaks_other e q rows n samples k || is_broken Use e q rows n samples k
