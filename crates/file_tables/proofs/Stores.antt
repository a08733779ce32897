-- Numbers stored one after another: what stands there, and what stands elsewhere. Assumes nothing.
use Prim.Native.Nat.{ℕ, zero, suc, ◌+◌, ◌≤◌, ◌<◌}
use mathlib.Core.List.{List, [], ◌∷◌}
use mathlib.Core.Path.{◌≡◌, refl, ◌∙◌}
use native.Mathlib.Omega.{arith}
use lib.IntN.{ℤ, pos}
use lib.ListN.{length, get_or, set, length-set}
use lib.Seq.{sets, get_or-set_same, get_or-set_other}

pub sets-before : (vs l : List ℤ) (i j : ℕ) → j < i → get_or (sets l i vs) j (pos 0) ≡ get_or l j (pos 0)
sets-before [] l i j h = refl
sets-before (a ∷ vs) l i j h =
    sets-before vs (set l i a) (suc i) j (omega arith) ∙ get_or-set_other l i j a (pos 0) (λ (e : j ≡ i). omega arith)

pub sets_behind : (vs l : List ℤ) (i j : ℕ) → i + length vs ≤ j → get_or (sets l i vs) j (pos 0) ≡ get_or l j (pos 0)
sets_behind [] l i j h = refl
sets_behind (a ∷ vs) l i j h =
    sets_behind vs (set l i a) (suc i) j (omega arith) ∙ get_or-set_other l i j a (pos 0) (λ (e : j ≡ i). omega arith)

pub sets-there : (vs l : List ℤ) (i c : ℕ) → c < length vs → i + length vs ≤ length l → get_or (sets l i vs) (i + c) (pos 0) ≡ get_or vs c (pos 0)
sets-there [] l i c h m = absurd (omega arith)
sets-there (a ∷ vs) l i zero h m =
    let e : i + 0 ≡ i = omega arith in
    rw e (sets-before vs (set l i a) (suc i) i (omega arith) ∙ get_or-set_same l i a (pos 0) (omega arith))
sets-there (a ∷ vs) l i (suc c) h m =
    let e : i + suc c ≡ suc i + c = omega arith in
    let k = length-set l i a in
    rw e (sets-there vs (set l i a) (suc i) c (omega arith) (omega arith))
