-- Places along a line of a text: what is left of the line there, its blanks, its end. Assumes nothing.
use Prim.Native.Nat.{ℕ, zero, suc, ◌+◌, ◌-◌, ◌<◌}
use mathlib.Core.Bool.{Bool, true, false, cond, ◌||◌, true≢false}
use mathlib.Core.List.{List, [], ◌∷◌}
use mathlib.Core.Logic.{inl}
use mathlib.Core.Path.{◌≡◌, refl, sym, ap, ◌∙◌}
use native.Mathlib.Nat.{add-zero, zero-add}
use native.Mathlib.Numerals.{add-one}
use native.Mathlib.Omega.{arith}
use borrow.Author.Tests.{eq-eqb, ne_eqb, eqb-true}
use lib.Dec.{eqb}
use lib.ListN.{length, get_or, take, drop, length-drop}
use lib.Seq.{take-nil, drop-cons, drop-drop, get_or-take, get_or-drop, length-take-le}
use Rattle.text.specs.Lines.{bare_of, bare_len, line_at}
use Rattle.text.specs.Marks.{is_blank, is_control, cut_at}
use Rattle.text.specs.Blanks.{blank_len, skipped}
use Rattle.text.specs.declared.Piece.{Piece}
use Rattle.text.proofs.Places.{feed-first}
use Rattle.text.proofs.Blanks.{skip-drop}
use Rattle.text.proofs.Cut.{line-at}
use Rattle.text.proofs.Clean.{cut-more, cut-here, control-low}
use Rattle.fields.specs.Fields.{fields_of}
use Rattle.rows.specs.Inside.{Along}

drop-take : (m n : ℕ) (l : List ℕ) → drop m (take (m + n) l) ≡ take n (drop m l)
drop-take zero n l = rw (zero-add n)
drop-take (suc m) n [] = let e : suc m + n ≡ suc (m + n) = omega arith in rw (e, take-nil n)
drop-take (suc m) n (c ∷ l) = let e : suc m + n ≡ suc (m + n) = omega arith in rw e (drop-take m n l)

-- ---- from place to place
pub along-none : (text : List ℕ) (at : ℕ) → Along text at at
along-none text at = record { later = omega arith; same = refl }

pub along_then : {text : List ℕ} {at i k : ℕ} → Along text at i → Along text i k → Along text at k
along_then a b = let l = a.later in
    let m = b.later in
    record { later = omega arith; same = b.same ∙ a.same }

-- both lines stop there
stops : {text : List ℕ} {at i : ℕ} → Along text at i → i + bare_len (drop i text) ≡ at + bare_len (drop at text)
unfolding cut_at line_at
stops a = ap (λ (p : Piece). p.stop) a.same

module _ {text : List ℕ} {at i : ℕ} (a : Along text at i) where
  -- what is left of the line
  pub left : drop (i - at) (bare_of (drop at text)) ≡ bare_of (drop i text)
  unfolding bare_of
  left =
      let l = a.later in
      let s = stops a in
      let n : bare_len (drop at text) ≡ i - at + bare_len (drop i text) = omega arith in
      let m : at + (i - at) ≡ i = omega arith in
      rw (n, drop-take (i - at) (bare_len (drop i text)) (drop at text), drop-drop, m)

  module _ (h : i < length text) where
    -- how long the line is
    long : length (bare_of (drop at text)) ≡ bare_len (drop at text)
    unfolding bare_of line_at
    long =
        let l = a.later in
        let w = (line-at text at (line_at text at) refl (omega arith)).within in
        let d = length-drop at text in
        length-take-le (bare_len (drop at text)) (drop at text) (omega arith)

    pub along-more : is_control (get_or text i 0) ≡ false → Along text at (i + 1)
    along-more e = let l = a.later in record { later = omega arith; same = cut-more text i h e ∙ a.same }

    -- a byte of the line
    module _ (b : Along text at (i + 1)) where
      short : i - at < bare_len (drop at text)
      short = let l = a.later in
          let s = stops b in
          omega arith

      pub byte_inside : i - at < length (bare_of (drop at text))
      byte_inside = rw long short

      pub byte-is : get_or (bare_of (drop at text)) (i - at) 0 ≡ get_or text i 0
      unfolding bare_of
      byte-is =
          let l = a.later in
          let m : at + (i - at) ≡ i = omega arith in
          rw (get_or-take (bare_len (drop at text)) (drop at text) (i - at) 0 short, get_or-drop, m)

    -- the LF
    module _ (e : get_or text i 0 ≡ 10) where
      pub feed-cut : ◌≡◌ {A = Piece} (record { stop = i; next = i + 1; clean = true }) (cut_at text at)
      feed-cut =
          let f : eqb i i ≡ true = eq-eqb i i refl in
          let p = cut-here text i h (sym (control-low _ (omega arith) (λ (n : get_or text i 0 ≡ 9). omega arith))) (record { stop = i; next = i + 1 }) (feed-first {text = text} {at = i} {i = i} (inl refl) h e (omega arith)) in
          ap (λ (t : Bool). record { stop = i; next = i + 1; clean = t }) (sym f) ∙ p ∙ a.same

      pub feed-long : length (bare_of (drop at text)) ≡ i - at
      unfolding cut_at line_at
      feed-long = let n = long in
          let s : i ≡ at + bare_len (drop at text) = ap (λ (p : Piece). p.stop) feed-cut in
          omega arith

-- ---- blanks
blank-not : (c d : ℕ) → is_blank c ≡ true → is_blank d ≡ false → c ≡ d → ⊥
blank-not c d e f p = true≢false (sym e ∙ ap is_blank p ∙ f)

pub blank-control : (c : ℕ) → is_blank c ≡ true → is_control c ≡ false
unfolding is_blank is_control
blank-control c e = go (eqb c 32) refl e
  where
    go : (b : Bool) → eqb c 32 ≡ b → b || eqb c 9 ≡ true → is_control c ≡ false
    go true f g = rw (eqb-true c 32 f)
    go false f g = rw (eqb-true c 9 g)

blank-feed : is_blank 10 ≡ false
unfolding is_blank
blank-feed = refl

blank-return : is_blank 13 ≡ false
unfolding is_blank
blank-return = refl

-- a line goes on behind a blank
blank-bare : (c : ℕ) (s : List ℕ) → is_blank c ≡ true → bare_of (c ∷ s) ≡ c ∷ bare_of s
unfolding bare_of bare_len
blank-bare c s e = rw (ne_eqb c 10 (blank-not c 10 e blank-feed), ne_eqb c 13 (blank-not c 13 e blank-return))

bare-fields : (s : List ℕ) → fields_of (bare_of s) ≡ fields_of (bare_of (drop (blank_len s) s))
unfolding fields_of blank_len
bare-fields [] = refl
bare-fields (c ∷ s) = go (is_blank c) refl (bare-fields s)
  where
    go : (b : Bool) → is_blank c ≡ b → fields_of (bare_of s) ≡ fields_of (bare_of (drop (blank_len s) s)) → fields_of (bare_of (c ∷ s)) ≡ fields_of (bare_of (drop (cond b (suc (blank_len s)) 0) (c ∷ s)))
    go true e r = rw (blank-bare c s e, e) r
    go false e r = refl

-- a place where a byte is
record ByteAt (text : List ℕ) (i c : ℕ) (s : List ℕ) : Type 0 where
  inside : i < length text
  here : get_or text i 0 ≡ c
  next : drop (i + 1) text ≡ s

byte_at : (text : List ℕ) (i c : ℕ) (s : List ℕ) → drop i text ≡ c ∷ s → ByteAt text i c s
byte_at text i c s e =
    let l : length (drop i text) ≡ suc (length s) = ap length e in
    let d = length-drop i text in
    let h : i < length text = omega arith in
    let f : get_or text i 0 ∷ drop (suc i) text ≡ c ∷ s = sym (drop-cons text i 0 h) ∙ e in
    record { inside = h; here = cc; next = rw (add-one i) (let g : drop (suc i) text ≡ s = cc in g) }

cut-blanks : (text : List ℕ) (s : List ℕ) (i : ℕ) → drop i text ≡ s → cut_at text (i + blank_len s) ≡ cut_at text i
unfolding blank_len
cut-blanks text [] i e = rw (add-zero i)
cut-blanks text (c ∷ s) i e = let b = byte_at text i c s e in go b (is_blank c) refl (cut-blanks text s (i + 1) b.next)
  where
    go : ByteAt text i c s → (b : Bool) → is_blank c ≡ b → cut_at text (i + 1 + blank_len s) ≡ cut_at text (i + 1) → cut_at text (i + cond b (suc (blank_len s)) 0) ≡ cut_at text i
    go y true f r =
        let n : i + suc (blank_len s) ≡ i + 1 + blank_len s = omega arith in
        rw n (r ∙ cut-more text i y.inside (rw y.here (blank-control c f)))
    go y false f r = rw (add-zero i)

-- the place behind the blanks
module _ (text : List ℕ) (at : ℕ) where
  pub along-blanks : Along text at (skipped text at)
  unfolding skipped
  along-blanks = record { later = omega arith; same = cut-blanks text (drop at text) at refl }

  pub fields-blanks : fields_of (bare_of (drop at text)) ≡ fields_of (bare_of (drop (skipped text at) text))
  fields-blanks = bare-fields (drop at text) ∙ ap (λ (s : List ℕ). fields_of (bare_of s)) (skip-drop text at)
