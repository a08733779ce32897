-- Control bytes; what a turn of cut_line does, and what a caller learns of it: the line that next_line finds, and whether it is clean. Assumes nothing.
use Prim.Native.Nat.{ℕ, zero, suc, ◌+◌, ◌-◌, ◌≤◌, ◌<◌}
use mathlib.Core.Bool.{Bool, true, false, not, and-true, or-false, true≢false}
use mathlib.Core.List.{List, ◌∷◌}
use mathlib.Core.Path.{◌≡◌, sym, ap, ◌∙◌}
use native.Mathlib.Numerals.{add-one}
use native.Mathlib.Omega.{arith}
use borrow.Author.Tests.{lt-ltb, le-ltb, eq-eqb, ne_eqb}
use lib.Dec.{eqb, ltb, leb-suc-suc}
use lib.ListN.{length, get_or, take, drop, drop_of_length-le}
use lib.Seq.{drop-cons}
use Rattle.text.specs.Lines.{bare_of, bare_len, line_at}
use Rattle.text.specs.Marks.{is_control, any_control, cut_at}
use Rattle.text.specs.declared.Piece.{Piece}
use Rattle.text.specs.declared.Line.{Line}
use Rattle.text.proofs.Places.{line-none, line-more}
use Rattle.text.proofs.Cut.{LineAt, line-at, add-sub-left}

-- the line of a cut
abbrev pub line_of : Piece → Line
line_of r = record { stop = r.stop; next = r.next }

cut-is : (text : List ℕ) (at : ℕ) (l : Line) (clean : Bool) → l ≡ line_at text at → clean ≡ not (any_control (bare_of (drop at text)))
    → ◌≡◌ {A = Piece} (record { stop = l.stop; next = l.next; clean = clean }) (cut_at text at)
unfolding cut_at
cut-is text at l clean p q = rw (p, q)

-- ---- control bytes
module _ (b : ℕ) where
  pub control-other : (b ≡ 127 → ⊥) → (b ≡ 9 → ⊥) → ltb b 32 ≡ is_control b
  unfolding is_control
  control-other n m = rw (ne_eqb b 127 n, ne_eqb b 9 m, and-true, or-false) (leb-suc-suc b 31)

  pub control-low : b < 32 → (b ≡ 9 → ⊥) → true ≡ is_control b
  control-low h m = sym (lt-ltb b 32 h) ∙ control-other (λ (e : b ≡ 127). omega arith) m

  pub control-high : 32 ≤ b → (b ≡ 127 → ⊥) → false ≡ is_control b
  control-high h n = sym (le-ltb b 32 h) ∙ control-other n (λ (e : b ≡ 9). omega arith)

-- ---- one byte at a time
-- LF and CR are control bytes
not-feed : (c : ℕ) → is_control c ≡ false → c ≡ 10 → ⊥
unfolding is_control
not-feed c e p = true≢false (rw p at e)

not-return : (c : ℕ) → is_control c ≡ false → c ≡ 13 → ⊥
unfolding is_control
not-return c e p = true≢false (rw p at e)

clean-more : (c : ℕ) (s : List ℕ) → is_control c ≡ false → any_control (bare_of (c ∷ s)) ≡ any_control (bare_of s)
unfolding bare_of bare_len any_control
clean-more c s e = rw (ne_eqb c 10 (not-feed c e), ne_eqb c 13 (not-return c e), e)

-- so many bytes from a control byte on
clean-none : (c : ℕ) (s : List ℕ) (at n : ℕ) → is_control c ≡ true → eqb (at + n) at ≡ not (any_control (take n (c ∷ s)))
unfolding any_control
clean-none c s at zero e = eq-eqb (at + 0) at (omega arith)
clean-none c s at (suc n) e = rw (ne_eqb (at + suc n) at (λ (p : at + suc n ≡ at). omega arith), e)

module _ (text : List ℕ) (i : ℕ) where
  pub cut-end : length text ≤ i → ◌≡◌ {A = Piece} (record { stop = i; next = i; clean = true }) (cut_at text i)
  unfolding bare_of bare_len any_control
  cut-end h = cut-is text i (record { stop = i; next = i }) true (line-none text i h) (rw (drop_of_length-le text h))

  module _ (h : i < length text) where
    pub cut-more : is_control (get_or text i 0) ≡ false → cut_at text (i + 1) ≡ cut_at text i
    unfolding cut_at
    cut-more e =
        let n = not-return _ e in
        cut-is text i (line_at text (i + 1)) _ (line-more text i h (not-feed _ e) (rw (ne_eqb _ 13 n)))
        (rw (add-one i, drop-cons text i 0 h) (sym (ap not (clean-more (get_or text i 0) (drop (suc i) text) e))))

    pub cut-here : is_control (get_or text i 0) ≡ true → (l : Line) → l ≡ line_at text i → ◌≡◌ {A = Piece} (record { stop = l.stop; next = l.next; clean = eqb l.stop i }) (cut_at text i)
    unfolding line_at bare_of
    cut-here e l p =
        cut-is text i l (eqb l.stop i) p (rw (p, drop-cons text i 0 h) (clean-none (get_or text i 0) (drop (suc i) text) i _ e))

-- ---- what a caller learns
module _ (text : List ℕ) (at : ℕ) (r : Piece) (p : r ≡ cut_at text at) where
  pub cut_line : line_of r ≡ line_at text at
  unfolding cut_at
  cut_line = rw p

  pub cut-at : at < length text → LineAt text at (line_of r)
  cut-at h = line-at text at (line_of r) cut_line h

  pub cut-clean : r.clean ≡ not (any_control (take (r.stop - at) (drop at text)))
  unfolding cut_at line_at bare_of
  cut-clean = rw (p, add-sub-left)
