-- The outcome of expanding a file's shapes is determined: two that keep the contract are the same. Assumes nothing.
use Prim.Native.Nat.{ℕ}
use mathlib.Core.List.{List}
use mathlib.Core.Path.{◌≡◌, sym, ◌∙◌}
use lib.IntN.{ℤ}
use Rattle.shape.specs.declared.Edition.{Edition}
use Rattle.sampling.specs.Sampling.{Sampled}

pub sampled-unique : {edition : Edition} {file : List ℕ} {rows : List ℤ} {n : ℕ} {l : List ℤ} {r q : ℕ} {l' m : List ℤ}
    → Sampled edition file rows n l r l' → Sampled edition file rows n l q m → (r ≡ q) × (l' ≡ m)
sampled-unique a b = (a.answer ∙ sym b.answer, a.samples ∙ sym b.samples)
