-- The stored lines of a restated shape expand to the samples that were written, in either edition. Assumes nothing.
use Rattle.std.proofs.Common.{Ok}
use Prim.Native.Nat.{ℕ, ◌-◌, ◌≤◌}
use mathlib.Core.Bool.{true}
use mathlib.Core.List.{List, ◌++◌, append-nil}
use mathlib.Core.Path.{◌≡◌, ap, ◌∙◌}
use native.Mathlib.Omega.{arith}
use borrow.Author.Tests.{le-leb}
use lib.IntN.{ℤ, pos}
use lib.ListN.{length, replicate}
use Rattle.shape.specs.declared.Edition.{Edition}
use Rattle.expanding.specs.Alone.{expanded_of, table_of}
use Rattle.shape_text.specs.Written.{all_within, stored_text, is_writable}
use Rattle.shape_text.proofs.Back.{written_back}

module _ (target : Edition) (zs : List ℤ) (w : all_within zs ≡ true) (some : 1 ≤ length zs) (few : length zs ≤ 1000000) where
  writable : is_writable zs ≡ true
  unfolding is_writable
  writable = rw (le-leb 1 (length zs) some, le-leb (length zs) 1000000 few, w)

  pub expands-back : expanded_of target (length zs) (stored_text target zs) (length zs) ≡ Ok (length zs)
  unfolding stored_text
  expands-back = rw w (written_back target zs writable (length zs) (omega arith)).0

  pub samples-back : table_of target (length zs) (stored_text target zs) (length zs) ≡ zs
  unfolding stored_text
  samples-back =
      let z : length zs - length zs ≡ 0 = omega arith in
      rw w ((written_back target zs writable (length zs) (omega arith)).1 ∙ ap (λ (n : ℕ). zs ++ replicate n (pos 0)) z ∙ append-nil zs)
