-- A line without LF that does not end in CR, an LF behind it: it is read as that line, and then the lines of what follows. Assumes nothing.
use Prim.Native.Nat.{ℕ}
use mathlib.Core.Bool.{Bool, true, false, ◌||◌, and-false, true≢false}
use mathlib.Core.List.{List, [], ◌∷◌, ◌++◌}
use mathlib.Core.Path.{◌≡◌, refl}
use lib.Dec.{eqb}
use Rattle.text.specs.Lines.{starts_lf, onto, lines_of}

unfoldable pub has_feed : List ℕ → Bool
has_feed [] = false
has_feed (c ∷ s) = eqb c 10 || has_feed s

unfoldable pub ends_return : List ℕ → Bool
ends_return [] = false
ends_return (c ∷ []) = eqb c 13
ends_return (c ∷ d ∷ s) = ends_return (d ∷ s)

pub record OneLine (line : List ℕ) : Type 0 where
  pub whole : has_feed line ≡ false
  pub bare : ends_return line ≡ false

-- neither of two
pub or_left : (x y : Bool) → x || y ≡ false → x ≡ false
or_left true y e = e
or_left false y e = refl

pub or_right : (x y : Bool) → x || y ≡ false → y ≡ false
or_right true y e = absurd (true≢false e)
or_right false y e = e

module _ (rest : List ℕ) where
  line-from : (line : List ℕ) → has_feed line ≡ false → ends_return line ≡ false → lines_of (line ++ 10 ∷ rest) ≡ line ∷ lines_of rest
  unfolding has_feed ends_return lines_of onto starts_lf
  line-from [] f e = refl
  line-from (c ∷ []) f e = rw (or_left (eqb c 10) false f, e)
  line-from (c ∷ d ∷ s) f e =
      let g : has_feed (d ∷ s) ≡ false = or_right (eqb c 10) (has_feed (d ∷ s)) f in
      rw (line-from (d ∷ s) g e, or_left (eqb c 10) (has_feed (d ∷ s)) f, or_left (eqb d 10) (has_feed s) g, and-false)

  pub lines-line : {line : List ℕ} → OneLine line → lines_of (line ++ 10 ∷ rest) ≡ line ∷ lines_of rest
  lines-line {line} o = line-from line o.whole o.bare
