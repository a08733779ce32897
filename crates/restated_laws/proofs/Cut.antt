-- A text of short lines, each with an LF behind it, is cut into short lines. Assumes nothing.
use Prim.Native.Nat.{ℕ, zero, suc, ◌≤◌}
use mathlib.Core.Bool.{Bool, true, false, cond, ◌&&◌}
use mathlib.Core.List.{List, [], ◌∷◌, ◌++◌}
use native.Mathlib.Omega.{arith}
use lib.Dec.{eqb}
use lib.ListN.{length, get_or}
use Rattle.text.specs.Lines.{starts_lf, onto, lines_of}
use Rattle.text.proofs.Short.{Short, short_none, short-line}
use Rattle.restated_laws.specs.Limits.{ShortLines}

-- the first line has at most so many bytes, the others at most 1,024
record Cut (most : ℕ) (ls : List (List ℕ)) : Type 0 where
  first : length (get_or ls 0 []) ≤ most
  others : (i : ℕ) → length (get_or ls (suc i) []) ≤ 1024

cut-each : {most : ℕ} {ls : List (List ℕ)} → most ≤ 1024 → Cut most ls → (i : ℕ) → length (get_or ls i []) ≤ 1024
cut-each h c zero = let f = c.first in omega arith
cut-each h c (suc i) = c.others i

onto-cut : {most : ℕ} (b : ℕ) (ls : List (List ℕ)) → Cut most ls → Cut (suc most) (onto b ls)
unfolding onto
onto-cut b [] c = record { first = omega arith; others = λ i. omega arith }
onto-cut b (l ∷ ls) c = let f = c.first in record { first = omega arith; others = c.others }

-- one line in front of others: bytes that end it earlier only make it shorter
cut-more : (s t : List ℕ) → length s ≤ 1024 → ShortLines t → Cut (length s) (lines_of (s ++ (10 ∷ t)))
unfolding ShortLines lines_of
cut-more [] t h p = record { first = omega arith; others = p }
cut-more (b ∷ s) t h p = go (eqb b 10) (eqb b 13 && starts_lf (s ++ (10 ∷ t))) (cut-more s t (omega arith) p)
  where
    go : (feed return : Bool) → Cut (length s) (lines_of (s ++ (10 ∷ t)))
        → Cut (suc (length s)) (cond feed ([] ∷ lines_of (s ++ (10 ∷ t))) (cond return (lines_of (s ++ (10 ∷ t))) (onto b (lines_of (s ++ (10 ∷ t))))))
    go true return c = record { first = omega arith; others = cut-each (omega arith) c }
    go false true c = let f = c.first in record { first = omega arith; others = c.others }
    go false false c = onto-cut b _ c

pub short-lines : {t : List ℕ} → Short t → ShortLines t
unfolding ShortLines lines_of
short-lines short_none i = omega arith
short-lines (short-line s {t} h p) i = cut-each h (cut-more s t h (λ j. short-lines p j)) i
