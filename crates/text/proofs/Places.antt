-- What a turn of a loop does: the definitions at `drop i text`, one byte at a time. Assumes nothing.
use Prim.Native.Nat.{ℕ, suc, ◌+◌, ◌-◌, ◌≤◌, ◌<◌, max}
use mathlib.Core.Bool.{true, false, ◌&&◌, and-false, true≢false}
use mathlib.Core.List.{List, [], ◌∷◌}
use mathlib.Core.Logic.{◌⊎◌, inl, inr}
use mathlib.Core.Path.{◌≡◌, refl, sym, ap, ◌∙◌}
use native.Mathlib.Nat.{add-zero}
use native.Mathlib.Numerals.{add-one}
use native.Mathlib.Omega.{arith}
use borrow.Author.Tests.{eq-eqb, ne_eqb}
use lib.Dec.{eqb}
use lib.ListN.{length, get_or, drop, drop_of_length-le}
use lib.Seq.{drop-cons}
use Rattle.text.specs.Lines.{starts_lf, bare_len, pass_len, line_at}
use Rattle.text.specs.Marks.{is_blank}
use Rattle.text.specs.Blanks.{blank_len, skipped}
use Rattle.text.specs.declared.Line.{Line}
use Rattle.text.proofs.Cases.{lt-or-ge}

-- ---- where a walk from `at` on ends that met nothing: at the end of the text, or at once, if that is before `at`
pub at-end : {A : Type 0} (F G : ℕ → A) {n at i e : ℕ} → ((k : ℕ) → n ≤ k → G k ≡ F k) → F i ≡ F at → n ≤ i → (at ≤ n → i ≤ n) → e ≡ max n at → G e ≡ F at
at-end F G {n} {at} {i} {e} ends same late inside is = go (lt-or-ge at n)
  where
    go : (at < n) ⊎ (n ≤ at) → G e ≡ F at
    go (inl h) = let p : e ≡ i = omega arith in rw p (ends i late ∙ same)
    go (inr h) = let p : e ≡ at = omega arith in rw p (ends at h)

-- ---- lines
-- a CR before an LF
pass-return : (s : List ℕ) → starts_lf s ≡ true → pass_len s ≡ 1
unfolding starts_lf pass_len
pass-return [] e = absurd (true≢false (sym e))
pass-return (c ∷ s) e = rw e

line-is : (text : List ℕ) (at stop next : ℕ) → stop ≡ at + bare_len (drop at text) → next ≡ at + pass_len (drop at text) → ◌≡◌ {A = Line} (record { stop = stop; next = next }) (line_at text at)
unfolding line_at
line-is text at stop next p q = rw (p, q)

module _ (text : List ℕ) (i : ℕ) where
  feed-none : length text ≤ i → starts_lf (drop i text) ≡ false
  unfolding starts_lf
  feed-none h = rw (drop_of_length-le text h)

  feed-at : i < length text → starts_lf (drop i text) ≡ eqb (get_or text i 0) 10
  unfolding starts_lf
  feed-at h = rw (drop-cons text i 0)

  pub line-none : length text ≤ i → ◌≡◌ {A = Line} (record { stop = i; next = i }) (line_at text i)
  unfolding bare_len pass_len
  line-none h = line-is text i i i (rw (drop_of_length-le text h, add-zero)) (rw (drop_of_length-le text h, add-zero))

  module _ (h : i < length text) where
    line-feed : get_or text i 0 ≡ 10 → ◌≡◌ {A = Line} (record { stop = i; next = i + 1 }) (line_at text i)
    unfolding bare_len pass_len
    line-feed e = line-is text i i (i + 1) (rw (drop-cons text i 0, eq-eqb _ _ e, add-zero)) (rw (drop-cons text i 0, eq-eqb _ _ e))

    module _ (n : get_or text i 0 ≡ 10 → ⊥) where
      bare-more : eqb (get_or text i 0) 13 && starts_lf (drop (i + 1) text) ≡ false → bare_len (drop i text) ≡ suc (bare_len (drop (i + 1) text))
      unfolding bare_len
      bare-more e = rw (add-one i, drop-cons text i 0, ne_eqb _ _ n, rw (add-one i) at e)

      bare-return : get_or text i 0 ≡ 13 → starts_lf (drop (i + 1) text) ≡ true → bare_len (drop i text) ≡ 0
      unfolding bare_len
      bare-return e f = rw (drop-cons text i 0, ne_eqb _ _ n, eq-eqb _ _ e, ← add-one i, f)

      pass-more : pass_len (drop i text) ≡ suc (pass_len (drop (i + 1) text))
      unfolding pass_len
      pass-more = rw (add-one, drop-cons text i 0, ne_eqb _ _ n)

      line-return : get_or text i 0 ≡ 13 → starts_lf (drop (i + 1) text) ≡ true → ◌≡◌ {A = Line} (record { stop = i; next = i + 2 }) (line_at text i)
      line-return e f =
          let b = bare-return e f in
          let p = pass-return (drop (i + 1) text) f in
          let q = pass-more in
          line-is text i i (i + 2) (omega arith) (omega arith)

      pub line-more : eqb (get_or text i 0) 13 && starts_lf (drop (i + 1) text) ≡ false → line_at text (i + 1) ≡ line_at text i
      unfolding line_at
      line-more e =
          let b = bare-more e in
          let q = pass-more in
          line-is text i (i + 1 + bare_len (drop (i + 1) text)) (i + 1 + pass_len (drop (i + 1) text)) (omega arith) (omega arith)

-- a line that starts at `at` is sought up to i: the byte before i is no LF, and the line from that byte on ends where that from `at` on does
pub record Passed (text : List ℕ) (at i : ℕ) : Type 0 where
  pub last : ℕ
  pub behind : i ≡ last + 1
  pub late : at ≤ last
  pub inside : last < length text
  pub plain : get_or text last 0 ≡ 10 → ⊥
  pub same : line_at text last ≡ line_at text at

abbrev pub Sought : List ℕ → ℕ → ℕ → Type 0
Sought text at i = (i ≡ at) ⊎ Passed text at i

module _ {text : List ℕ} {at i : ℕ} where
  sought-late : Sought text at i → at ≤ i
  sought-late (inl e) = omega arith
  sought-late (inr p) = let a = p.late in let b = p.behind in omega arith

  -- the byte at i is no LF behind a CR
  passed_on : (p : Passed text at i) → eqb (get_or text p.last 0) 13 && starts_lf (drop i text) ≡ false → line_at text i ≡ line_at text at
  passed_on p e = rw p.behind (line-more text p.last p.inside p.plain (rw (← p.behind) e) ∙ p.same)

  sought-on : Sought text at i → starts_lf (drop i text) ≡ false → line_at text i ≡ line_at text at
  sought-on (inl e) f = ap (line_at text) e
  sought-on (inr p) f = passed_on p (rw (f, and-false))

  pub sought-end : Sought text at i → length text ≤ i → line_at text i ≡ line_at text at
  sought-end s h = sought-on s (feed-none text i h)

  module _ (s : Sought text at i) (h : i < length text) where
    pub sought-turn : (get_or text i 0 ≡ 10 → ⊥) → Sought text at (i + 1)
    sought-turn n =
        inr (record { last = i; behind = refl; late = sought-late s; inside = h; plain = n; same = sought-on s (feed-at text i h ∙ ne_eqb _ _ n) })

    module _ (e : get_or text i 0 ≡ 10) where
      pub feed-first : i ≤ at → ◌≡◌ {A = Line} (record { stop = i; next = i + 1 }) (line_at text at)
      feed-first l = let a = sought-late s in line-feed text i h e ∙ ap (line_at text) (omega arith)

      pub feed-behind : (get_or text (i - 1) 0 ≡ 13 → ⊥) → ◌≡◌ {A = Line} (record { stop = i; next = i + 1 }) (line_at text at)
      feed-behind n = go s
        where
          go : Sought text at i → ◌≡◌ {A = Line} (record { stop = i; next = i + 1 }) (line_at text at)
          go (inl a) = line-feed text i h e ∙ ap (line_at text) a
          go (inr p) =
              let b : i - 1 ≡ p.last = let d = p.behind in omega arith in
              line-feed text i h e ∙ passed_on p (rw (ne_eqb (get_or text p.last 0) 13 (rw (← b) n)))

      pub feed-return : at < i → get_or text (i - 1) 0 ≡ 13 → ◌≡◌ {A = Line} (record { stop = i - 1; next = i + 1 }) (line_at text at)
      feed-return l r = go s
        where
          go : Sought text at i → ◌≡◌ {A = Line} (record { stop = i - 1; next = i + 1 }) (line_at text at)
          go (inl a) = absurd (omega arith)
          go (inr p) =
              let b : i - 1 ≡ p.last = let d = p.behind in omega arith in
              let c : i + 1 ≡ p.last + 2 = let d = p.behind in omega arith in
              rw (b, c) (line-return text p.last p.inside p.plain (rw (← b) r) (rw (← p.behind) (feed-at text i h ∙ eq-eqb _ _ e)) ∙ p.same)

-- ---- blanks
module _ (line : List ℕ) (i : ℕ) where
  pub skip-none : length line ≤ i → i ≡ skipped line i
  unfolding skipped blank_len
  skip-none h = rw (drop_of_length-le line h, add-zero)

  module _ (h : i < length line) where
    pub skip_stop : is_blank (get_or line i 0) ≡ false → i ≡ skipped line i
    unfolding skipped blank_len
    skip_stop e = rw (drop-cons line i 0, e, add-zero)

    blank-more : is_blank (get_or line i 0) ≡ true → blank_len (drop i line) ≡ suc (blank_len (drop (i + 1) line))
    unfolding blank_len
    blank-more e = rw (add-one i, drop-cons line i 0, e)

    pub skip-more : is_blank (get_or line i 0) ≡ true → skipped line (i + 1) ≡ skipped line i
    unfolding skipped
    skip-more e = let b = blank-more e in omega arith
