-- Outcomes are unique. A contract that is an equation with a definition leaves one answer; those that are records of such equations have their laws
-- beside them (`read-unique`, `expand-unique`, `write-unique`, `definition-unique`, `stored-unique`, and those of the exported functions). Assumes
-- nothing.
use mathlib.Core.Path.{◌≡◌, sym, ◌∙◌}

pub equation-unique : {A : Type 0} {outcome a b : A} → a ≡ outcome → b ≡ outcome → a ≡ b
equation-unique p q = p ∙ sym q
