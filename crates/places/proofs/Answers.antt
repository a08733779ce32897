-- What a step answers of a value that is known. Assumes nothing.
use mathlib.Core.Path.{◌≡◌, sym, ap, ◌∙◌}
use Rattle.places.specs.declared.Stepped.{Stepped}

-- what a function answers of a value that is known
pub told : {A : Type 0} (f : A → Stepped) {x y : A} {r : Stepped} → r ≡ f y → x ≡ y → r ≡ f x
told f h e = h ∙ sym (ap f e)
