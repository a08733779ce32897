-- The outcome of expanding is determined: two that keep the contract are the same. Assumes nothing.
use Rattle.shape.specs.Answers.{Expanded}
use Prim.Native.Nat.{ℕ}
use mathlib.Core.List.{List}
use mathlib.Core.Path.{◌≡◌, sym, ◌∙◌}
use lib.IntN.{ℤ}
use Rattle.expanding.specs.Alone.{Expansion}
use Rattle.shape.specs.declared.Edition.{Edition}

pub expand-unique : {edition : Edition} {num : ℕ} {text : List ℕ} {l : List ℤ} {r q : Expanded} {m k : List ℤ}
    → Expansion edition num text l r m → Expansion edition num text l q k → (r ≡ q) × (m ≡ k)
expand-unique a b = (a.answer ∙ sym b.answer, a.samples ∙ sym b.samples)
