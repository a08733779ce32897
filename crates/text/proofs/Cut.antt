-- What a caller learns of next_line: the first line, without its end and with it. Assumes nothing.
use Prim.Native.Nat.{ℕ, zero, suc, ◌+◌, ◌-◌, ◌≤◌, ◌<◌}
use mathlib.Core.Bool.{Bool, true, false, cond, ◌&&◌, true≢false}
use mathlib.Core.List.{List, [], ◌∷◌, map}
use mathlib.Core.Path.{◌≡◌, refl, sym, ap, ◌∙◌}
use native.Mathlib.Omega.{arith}
use lib.Dec.{eqb}
use lib.ListN.{length, take, drop, length-drop}
use lib.Seq.{take-take, drop-drop}
use Rattle.text.specs.Lines.{starts_lf, onto, lines_of, whole_lines_of, bare_of, bare_len, pass_len, line_at}
use Rattle.text.specs.declared.Line.{Line}

pub add-sub-left : (a b : ℕ) → a + b - a ≡ b
add-sub-left a b = omega arith

-- ---- lines
abbrev first : List ℕ → List (List ℕ)
first s = take (bare_len s) s ∷ lines_of (drop (pass_len s) s)

feed : (s : List ℕ) → starts_lf s ≡ true → lines_of s ≡ [] ∷ lines_of (drop (pass_len s) s)
unfolding starts_lf lines_of pass_len
feed [] e = absurd (true≢false (sym e))
feed (c ∷ s) e = rw e

cut : (c : ℕ) (s : List ℕ) → onto c (lines_of s) ≡ (c ∷ take (bare_len s) s) ∷ lines_of (drop (pass_len s) s) → lines_of (c ∷ s) ≡ first (c ∷ s)
unfolding lines_of bare_len pass_len
cut c s m = go (eqb c 10)
  where
    right : (x y : Bool) → x && y ≡ true → y ≡ true
    right true y e = e
    right false y e = absurd (true≢false (sym e))

    inner : (b : Bool) → eqb c 13 && starts_lf s ≡ b
        → cond b (lines_of s) (onto c (lines_of s)) ≡ take (cond b 0 (suc (bare_len s))) (c ∷ s) ∷ lines_of (drop (suc (pass_len s)) (c ∷ s))
    inner true e = feed s (right (eqb c 13) (starts_lf s) e)
    inner false e = m

    go : (b : Bool)
        → cond b ([] ∷ lines_of s) (cond (eqb c 13 && starts_lf s) (lines_of s) (onto c (lines_of s)))
        ≡ take (cond b 0 (cond (eqb c 13 && starts_lf s) 0 (suc (bare_len s)))) (c ∷ s) ∷ lines_of (drop (cond b 1 (suc (pass_len s))) (c ∷ s))
    go true = refl
    go false = inner (eqb c 13 && starts_lf s) refl

nothing : (c : ℕ) → onto c (lines_of []) ≡ (c ∷ take (bare_len []) []) ∷ lines_of (drop (pass_len []) [])
unfolding lines_of bare_len pass_len onto
nothing c = refl

onto-first : (c : ℕ) (s : List ℕ) (l : List ℕ) (ls : List (List ℕ)) → lines_of s ≡ l ∷ ls → onto c (lines_of s) ≡ (c ∷ l) ∷ ls
unfolding onto
onto-first c s l ls e = rw e

lines_cut : (c : ℕ) (s : List ℕ) → lines_of (c ∷ s) ≡ first (c ∷ s)
lines_cut c [] = cut c [] (nothing c)
lines_cut c (d ∷ s) = cut c (d ∷ s) (onto-first c (d ∷ s) _ _ (lines_cut d s))

bare-le : (s : List ℕ) → bare_len s ≤ pass_len s
unfolding bare_len pass_len
bare-le [] = omega arith
bare-le (c ∷ s) = go (eqb c 10) (eqb c 13 && starts_lf s) (bare-le s)
  where
    go : (b d : Bool) → bare_len s ≤ pass_len s → cond b 0 (cond d 0 (suc (bare_len s))) ≤ cond b 1 (suc (pass_len s))
    go true d h = omega arith
    go false true h = omega arith
    go false false h = omega arith

pass_le : (s : List ℕ) → pass_len s ≤ length s
unfolding pass_len
pass_le [] = omega arith
pass_le (c ∷ s) = go (eqb c 10) (pass_le s)
  where
    go : (b : Bool) → pass_len s ≤ length s → cond b 1 (suc (pass_len s)) ≤ suc (length s)
    go true h = omega arith
    go false h = omega arith

pass-some : (c : ℕ) (s : List ℕ) → 1 ≤ pass_len (c ∷ s)
unfolding pass_len
pass-some c s = go (eqb c 10)
  where
    go : (b : Bool) → 1 ≤ cond b 1 (suc (pass_len s))
    go true = omega arith
    go false = omega arith

-- the line at a place, and that the rest is further on
pub record LineAt (text : List ℕ) (at : ℕ) (r : Line) : Type 0 where
  pub ordered : at ≤ r.stop
  pub within : r.stop ≤ length text
  pub further : at < r.next
  pub inside : r.next ≤ length text
  pub line : lines_of (drop at text) ≡ take (r.stop - at) (drop at text) ∷ lines_of (drop r.next text)

pub line-at : (text : List ℕ) (at : ℕ) (r : Line) → r ≡ line_at text at → at < length text → LineAt text at r
unfolding line_at
line-at text at r p h = go (drop at text) refl (length-drop at text)
  where
    go : (s : List ℕ) → drop at text ≡ s → length s ≡ length text - at → LineAt text at r
    go [] e l = absurd (omega arith)
    go (c ∷ s) e l =
        let b : r.stop ≡ at + bare_len (c ∷ s) = ap (λ (x : Line). x.stop) p ∙ ap (λ (x : List ℕ). at + bare_len x) e in
        let n : r.next ≡ at + pass_len (c ∷ s) = ap (λ (x : Line). x.next) p ∙ ap (λ (x : List ℕ). at + pass_len x) e in
        let u = bare-le (c ∷ s) in
        let v = pass_le (c ∷ s) in
        let w = pass-some c s in
        record {
          ordered = omega arith;
          within = omega arith;
          further = omega arith;
          inside = omega arith;
          line = rw (e, b, add-sub-left, n, ← drop-drop, e) (lines_cut c s);
        }

-- ---- lines with their ends
wholes-cut : (c : ℕ) (s : List ℕ) → whole_lines_of (c ∷ s) ≡ take (pass_len (c ∷ s)) (c ∷ s) ∷ whole_lines_of (drop (pass_len (c ∷ s)) (c ∷ s))
unfolding whole_lines_of pass_len onto
wholes-cut c [] = go (eqb c 10)
  where
    go : (b : Bool) → cond b ((c ∷ []) ∷ []) ((c ∷ []) ∷ []) ≡ take (cond b 1 1) (c ∷ []) ∷ whole_lines_of (drop (cond b 1 1) (c ∷ []))
    go true = refl
    go false = refl
wholes-cut c (d ∷ s) = go (eqb c 10) (wholes-cut d s)
  where
    go : (b : Bool) → whole_lines_of (d ∷ s) ≡ take (pass_len (d ∷ s)) (d ∷ s) ∷ whole_lines_of (drop (pass_len (d ∷ s)) (d ∷ s))
        → cond b ((c ∷ []) ∷ whole_lines_of (d ∷ s)) (onto c (whole_lines_of (d ∷ s)))
        ≡ take (cond b 1 (suc (pass_len (d ∷ s)))) (c ∷ d ∷ s) ∷ whole_lines_of (drop (cond b 1 (suc (pass_len (d ∷ s)))) (c ∷ d ∷ s))
    go true e = refl
    go false e = rw e

-- the first line with its end starts as the text does, and is as long without it
whole-starts : (s : List ℕ) → starts_lf (take (pass_len s) s) ≡ starts_lf s
unfolding starts_lf pass_len
whole-starts [] = refl
whole-starts (c ∷ s) = go (eqb c 10)
  where
    go : (b : Bool) → starts_lf (take (cond b 1 (suc (pass_len s))) (c ∷ s)) ≡ eqb c 10
    go true = refl
    go false = refl

whole-bare : (s : List ℕ) → bare_len (take (pass_len s) s) ≡ bare_len s
unfolding bare_len pass_len
whole-bare [] = refl
whole-bare (c ∷ s) = go (eqb c 10) refl (whole-bare s)
  where
    go : (b : Bool) → eqb c 10 ≡ b → bare_len (take (pass_len s) s) ≡ bare_len s
        → bare_len (take (cond b 1 (suc (pass_len s))) (c ∷ s)) ≡ cond b 0 (cond (eqb c 13 && starts_lf s) 0 (suc (bare_len s)))
    go true e h = rw e
    go false e h = rw (e, whole-starts s, h)

bare-first : (s : List ℕ) → bare_of (take (pass_len s) s) ≡ take (bare_len s) s
unfolding bare_of
bare-first s = rw (whole-bare s, take-take (bare_len s) (pass_len s) s (bare-le s))

-- the line at a place with its end
pub record WholeAt (text : List ℕ) (at : ℕ) (r : Line) : Type 0 where
  pub whole : whole_lines_of (drop at text) ≡ take (r.next - at) (drop at text) ∷ whole_lines_of (drop r.next text)
  pub bare : bare_of (take (r.next - at) (drop at text)) ≡ take (r.stop - at) (drop at text)

pub whole-at : (text : List ℕ) (at : ℕ) (r : Line) → r ≡ line_at text at → at < length text → WholeAt text at r
unfolding line_at
whole-at text at r p h = go (drop at text) refl (length-drop at text)
  where
    go : (s : List ℕ) → drop at text ≡ s → length s ≡ length text - at → WholeAt text at r
    go [] e l = absurd (omega arith)
    go (c ∷ s) e l =
        let b : r.stop ≡ at + bare_len (c ∷ s) = ap (λ (x : Line). x.stop) p ∙ ap (λ (x : List ℕ). at + bare_len x) e in
        let n : r.next ≡ at + pass_len (c ∷ s) = ap (λ (x : Line). x.next) p ∙ ap (λ (x : List ℕ). at + pass_len x) e in
        record {
          whole = rw (n, add-sub-left, ← drop-drop, e) (wholes-cut c s);
          bare = rw (e, b, n, add-sub-left at (pass_len (c ∷ s)), add-sub-left at (bare_len (c ∷ s))) (bare-first (c ∷ s));
        }

-- the lines are those with their ends, without them
lines-bare-in : (n : ℕ) (t : List ℕ) → length t ≤ n → lines_of t ≡ map bare_of (whole_lines_of t)
unfolding lines_of whole_lines_of
lines-bare-in zero [] h = refl
lines-bare-in zero (c ∷ s) h = absurd (omega arith)
lines-bare-in (suc n) [] h = refl
lines-bare-in (suc n) (c ∷ s) h =
    let l = length-drop (pass_len (c ∷ s)) (c ∷ s) in
    let w = pass-some c s in
    lines_cut c s ∙ rw (wholes-cut c s, bare-first (c ∷ s), lines-bare-in n (drop (pass_len (c ∷ s)) (c ∷ s)) (omega arith))

pub lines-bare : (t : List ℕ) → lines_of t ≡ map bare_of (whole_lines_of t)
lines-bare t = lines-bare-in (length t) t (omega arith)
