-- What a caller learns of skip: the place behind the blanks. Assumes nothing.
use Prim.Native.Nat.{ℕ, suc, ◌≤◌}
use mathlib.Core.Bool.{Bool, true, false, cond}
use mathlib.Core.List.{List, [], ◌∷◌}
use mathlib.Core.Path.{◌≡◌, refl, ◌∙◌}
use native.Mathlib.Omega.{arith}
use lib.ListN.{length, drop, length-drop}
use lib.Seq.{drop-drop}
use Rattle.text.specs.Marks.{is_blank}
use Rattle.text.specs.Blanks.{blank_len, skipped}

pub blank-le : (s : List ℕ) → blank_len s ≤ length s
unfolding blank_len
blank-le [] = omega arith
blank-le (c ∷ s) = go (is_blank c) (blank-le s)
  where
    go : (b : Bool) → blank_len s ≤ length s → cond b (suc (blank_len s)) 0 ≤ suc (length s)
    go true h = omega arith
    go false h = omega arith

-- where the blanks end there is no blank, or nothing is left
blank-ends : (s : List ℕ) (c : ℕ) (t : List ℕ) → drop (blank_len s) s ≡ c ∷ t → is_blank c ≡ false
unfolding blank_len
blank-ends [] c t e = absurd (let z : ◌≡◌ {A = ℕ} 0 1 = cc in omega arith)
blank-ends (d ∷ s) c t e = go (is_blank d) refl (blank-ends s c t) e
  where
    go : (b : Bool) → is_blank d ≡ b → (drop (blank_len s) s ≡ c ∷ t → is_blank c ≡ false) → drop (cond b (suc (blank_len s)) 0) (d ∷ s) ≡ c ∷ t → is_blank c ≡ false
    go true f r e = r e
    go false f r e = let g : d ≡ c = cc in rw (← g) f

-- the place behind the blanks
module _ (line : List ℕ) (at : ℕ) where
  pub skip-later : at ≤ skipped line at
  unfolding skipped
  skip-later = omega arith

  pub skip-within : at ≤ length line → skipped line at ≤ length line
  unfolding skipped
  skip-within h = let l = length-drop at line in let b = blank-le (drop at line) in omega arith

  pub skip-drop : drop (blank_len (drop at line)) (drop at line) ≡ drop (skipped line at) line
  unfolding skipped
  skip-drop = rw drop-drop

  pub skip-ends : (c : ℕ) (t : List ℕ) → drop (skipped line at) line ≡ c ∷ t → is_blank c ≡ false
  skip-ends c t e = blank-ends (drop at line) c t (skip-drop ∙ e)
