-- The outcome of writing is determined: two that keep the contract are the same. Assumes nothing.
use Prim.Native.Nat.{ℕ}
use mathlib.Core.List.{List}
use mathlib.Core.Path.{◌≡◌, sym, ◌∙◌}
use lib.IntN.{ℤ}
use Rattle.shape.specs.declared.Edition.{Edition}
use Rattle.shape_text.specs.Written.{Written, Writing}

pub write-unique : {edition : Edition} {zs : List ℤ} {l : List ℕ} {r q : Written} {m k : List ℕ}
    → Writing edition zs l r m → Writing edition zs l q k → (r ≡ q) × (m ≡ k)
write-unique a b = (a.answer ∙ sym b.answer, a.output ∙ sym b.output)
