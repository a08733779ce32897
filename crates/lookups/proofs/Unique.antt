-- What is looked up is unique: two answers that keep the contract are the same. Assumes nothing.
use Prim.Native.Nat.{ℕ}
use mathlib.Core.List.{List}
use mathlib.Core.Path.{◌≡◌, sym, ◌∙◌}
use lib.IntN.{ℤ}
use Rattle.lookups.specs.Looking.{looked_up, stored_up}
use Rattle.lookups.specs.Spots.{Spot, definition_spot, stored_spot}

module _ (file site key : List ℕ) where
  pub definition-unique : {r r' : List ℕ} → r ≡ looked_up file site key → r' ≡ looked_up file site key → r ≡ r'
  definition-unique a b = a ∙ sym b

  pub definition-spot-unique : {r r' : Spot} → r ≡ definition_spot file site key → r' ≡ definition_spot file site key → r ≡ r'
  definition-spot-unique a b = a ∙ sym b

module _ (file site : List ℕ) (id : ℤ) where
  pub stored-unique : {r r' : List ℕ} → r ≡ stored_up file site id → r' ≡ stored_up file site id → r ≡ r'
  stored-unique a b = a ∙ sym b

  pub stored-spot-unique : {r r' : Spot} → r ≡ stored_spot file site id → r' ≡ stored_spot file site id → r ≡ r'
  stored-spot-unique a b = a ∙ sym b
