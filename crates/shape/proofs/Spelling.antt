-- Values read where they stand in a text: the digits, with a point or not, a minus in front, and an LF behind. Assumes nothing.
use Rattle.std.proofs.Common.{Option, Some}
use Prim.Native.Nat.{ℕ, suc, ◌+◌, ◌*◌, ◌-◌, ◌≤◌, ◌<◌}
use mathlib.Core.Bool.{Bool, true, false}
use mathlib.Core.List.{List, [], ◌∷◌, ◌++◌, append-nil, append_assoc}
use mathlib.Core.Path.{◌≡◌, refl, sym, ap, ◌∙◌}
use native.Mathlib.Nat.{add-zero}
use native.Mathlib.Numerals.{add-one}
use native.Mathlib.Omega.{arith}
use borrow.Author.Tests.{ne_eqb, eqb-true, le-ltb, ltb-true, le-leb}
use lib.Dec.{eqb, ltb}
use lib.ListN.{length, get_or, take, drop, length-append}
use lib.Seq.{drop-cons}
use Rattle.text.specs.Lines.{bare_len, pass_len, bare_of, line_at}
use Rattle.text.specs.Marks.{is_blank, mark_of, breaks_line, is_comment}
use Rattle.text.specs.declared.Mark.TheVariants.{Plain}
use Rattle.text.proofs.Cases.{and_both}
use Rattle.fields.proofs.Fields.{Word, fields-last}
use Rattle.fields.proofs.Visible.{is_visible, all_visible, visible-yes, visible-least, visible-append, visible_plain, visible-word}
use Rattle.numeral.specs.Digits.{is_digit, all_digits, value_from, is_minus, sign_len, unsigned}
use Rattle.numeral.proofs.Digits.{digit-least, digit-most, all_digits-append, value_from-append}
use Rattle.decimals.specs.Decimal.{digits, fraction, is_mantissa, decimal_of}
use Rattle.decimals.specs.Inside.{large, pointed_of}
use Rattle.decimals.proofs.Plain.{Parts, parts_whole, parts-point, decimal-pointed}
use Rattle.numeral.specs.declared.Decimal.{Decimal}
use Rattle.shape.specs.Stored.{number_item, fields_item, mark_item, item_of, held_at}
use Rattle.shape.specs.Inside.{stands_at, GatheredFrom, Spelt, whole, pointed, SpelledFrom, sign_text, SignFrom}
use Rattle.shape.specs.declared.Digits.{Digits}
use Rattle.shape.specs.declared.Held.{Held}
use Rattle.shape.specs.declared.Item.TheVariants.{Value}
use Rattle.shape.specs.declared.Spelled.{Spelled}

-- ---- A byte at a place
module _ (text : List ℕ) (at b : ℕ) where
  module _ (e : stands_at text at b ≡ true) where
    pub stands-within : at < length text
    unfolding stands_at
    stands-within = ltb-true at (length text) (and_both (ltb at (length text)) (eqb (get_or text at 0) b) e).0

    pub stands-drop : drop at text ≡ b ∷ drop (at + 1) text
    unfolding stands_at
    stands-drop =
        let q : get_or text at 0 ≡ b = eqb-true _ _ (and_both (ltb at (length text)) (eqb (get_or text at 0) b) e).1 in
        drop-cons text at 0 stands-within ∙ rw (q, add-one at)

-- ---- Digits, one after another
pub gather-start : (text : List ℕ) (at v : ℕ) → v < large → GatheredFrom text at v (record { v = v; stop = at })
unfolding all_digits value_from
gather-start text at v h =
    record { front = []; split = refl; long = sym (add-zero at); all = refl; value = refl; small = h }

module _ (text : List ℕ) (at v w i : ℕ) (g : GatheredFrom text at v (record { v = w; stop = i })) (h : i < length text) where
  abbrev byte : ℕ
  byte = get_or text i 0

  pub gather-turn : is_digit byte ≡ true → w < 100000000000000000 → GatheredFrom text at v (record { v = w * 10 + (byte - 48); stop = i + 1 })
  unfolding all_digits value_from
  gather-turn d k =
      let q = digit-most byte d in
      let e : drop i text ≡ byte ∷ drop (i + 1) text = drop-cons text i 0 h ∙ rw (add-one i) in
      let l : length (g.front ++ byte ∷ []) ≡ length g.front + 1 = length-append g.front (byte ∷ []) in
      let j = g.long in
      record {
        front = g.front ++ byte ∷ [];
        split = g.split ∙ ap (λ (t : List ℕ). g.front ++ t) e ∙ sym (append_assoc g.front (byte ∷ []) (drop (i + 1) text));
        long = omega arith;
        all = all_digits-append g.front (byte ∷ []) ∙ rw (g.all, d);
        value = ap (λ (x : ℕ). x * 10 + (byte - 48)) g.value ∙ sym (value_from-append g.front (byte ∷ []) v);
        small = omega arith;
      }

-- ---- With a point among them, or not
module _ (text : List ℕ) (start : ℕ) (r : Digits) (g : GatheredFrom text start 0 r) where
  pub spell-whole : SpelledFrom text start (record { v = r.v; count = r.stop - start; behind = 0; stop = r.stop })
  unfolding all_digits value_from
  spell-whole =
      let l = g.long in
      record {
        front = g.front;
        d = g.front;
        f = [];
        form = whole g.front;
        split = g.split;
        long = l;
        first = g.all;
        second = refl;
        value = g.value;
        small = g.small;
        count = omega arith;
        behind = refl;
      }

  module _ (e : stands_at text r.stop 46 ≡ true) (t : Digits) (k : GatheredFrom text (r.stop + 1) r.v t) where
    pub spell-point : SpelledFrom text start (record { v = t.v; count = t.stop - start - 1; behind = t.stop - r.stop - 1; stop = t.stop })
    spell-point =
        let a = g.long in
        let b = k.long in
        let n : length (g.front ++ 46 ∷ k.front) ≡ length g.front + suc (length k.front) = length-append g.front (46 ∷ k.front) in
        record {
          front = g.front ++ 46 ∷ k.front;
          d = g.front;
          f = k.front;
          form = pointed g.front k.front;
          split = g.split
              ∙ ap (λ (s : List ℕ). g.front ++ s) (stands-drop text r.stop 46 e ∙ ap (λ (s : List ℕ). 46 ∷ s) k.split)
              ∙ sym (append_assoc g.front (46 ∷ k.front) (drop t.stop text));
          long = omega arith;
          first = g.all;
          second = k.all;
          value = k.value ∙ ap (λ (x : ℕ). value_from x k.front) g.value;
          small = k.small;
          count = omega arith;
          behind = omega arith;
        }

-- ---- What is spelt so
digits-visible : (d : List ℕ) → all_digits d ≡ true → all_visible d ≡ true
unfolding all_digits all_visible
digits-visible [] e = refl
digits-visible (b ∷ d) e =
    let t = and_both (is_digit b) (all_digits d) e in
    let l = digit-least b t.0 in
    let m = digit-most b t.0 in
    rw (visible-yes b (omega arith) (omega arith)) (digits-visible d t.1)

-- it begins with a digit or a point
First : List ℕ → Type 0
First [] = ⊥
First (b ∷ s) = (46 ≤ b) × (b ≤ 57)

first-digits : (d t : List ℕ) → all_digits d ≡ true → 1 ≤ length d → First (d ++ t)
unfolding all_digits First
first-digits [] t e h = absurd (omega arith)
first-digits (b ∷ d) t e h =
    let a = (and_both (is_digit b) (all_digits d) e).0 in
    let l = digit-least b a in
    (omega arith, digit-most b a)

spelt-parts : {m d f : List ℕ} → Spelt m d f → all_digits d ≡ true → all_digits f ≡ true → Parts m (d ++ f) f
spelt-parts (whole d) p q = rw (append-nil d) (parts_whole d p)
spelt-parts (pointed d f) p q = parts-point d f p q

spelt-visible : {m d f : List ℕ} → Spelt m d f → all_digits d ≡ true → all_digits f ≡ true → all_visible m ≡ true
spelt-visible (whole d) p q = digits-visible d p
spelt-visible (pointed d f) p q =
    visible-append d (46 ∷ f) (digits-visible d p) (unfold all_visible in rw (visible-yes 46 (omega arith) (omega arith)) (digits-visible f q))

spelt-first : {m d f : List ℕ} → Spelt m d f → all_digits d ≡ true → 1 ≤ length d + length f → First m
spelt-first (whole d) p h = rw (append-nil d) at (first-digits d [] p (omega arith))
spelt-first (pointed [] f) p h = unfold First in (omega arith, omega arith)
spelt-first (pointed (b ∷ d) f) p h = first-digits (b ∷ d) (46 ∷ f) p (omega arith)

-- ---- A sign in front of it
module _ (minus : Bool) (m : List ℕ) (h : First m) where
  abbrev field : List ℕ
  field = sign_text minus ++ m

  sign-minus : is_minus field ≡ minus
  unfolding is_minus First
  sign-minus = go minus m h
    where
      go : (b : Bool) (m : List ℕ) → First m → is_minus (sign_text b ++ m) ≡ b
      go true m h = refl
      go false [] h = absurd h
      go false (c ∷ m) h = ne_eqb c 45 (λ (e : c ≡ 45). let l = h.0 in omega arith)

  sign-rest : unsigned field ≡ m
  unfolding sign_len First
  sign-rest = go minus m h
    where
      go : (b : Bool) (m : List ℕ) → First m → unsigned (sign_text b ++ m) ≡ m
      go true m h = refl
      go false [] h = absurd h
      go false (c ∷ m) h = let l = h.0 in rw (ne_eqb c 45 (λ (e : c ≡ 45). omega arith), ne_eqb c 43 (λ (e : c ≡ 43). omega arith))

  sign-mark : mark_of field ≡ Plain
  unfolding mark_of is_blank First
  sign-mark = go minus m h
    where
      go : (b : Bool) (m : List ℕ) → First m → mark_of (sign_text b ++ m) ≡ Plain
      go true m h = refl
      go false [] h = absurd h
      go false (c ∷ m) h =
          let l = h.0 in
          let k = h.1 in
          rw (
            ne_eqb c 32 (λ (e : c ≡ 32). omega arith),
            ne_eqb c 9 (λ (e : c ≡ 9). omega arith),
            ne_eqb c 35 (λ (e : c ≡ 35). omega arith),
            ne_eqb c 91 (λ (e : c ≡ 91). omega arith),
          )

  sign-some : 1 ≤ length field
  unfolding First
  sign-some = go minus m h
    where
      go : (b : Bool) (m : List ℕ) → First m → 1 ≤ length (sign_text b ++ m)
      go true m h = omega arith
      go false [] h = absurd h
      go false (c ∷ m) h = omega arith

  sign-visible : all_visible m ≡ true → all_visible field ≡ true
  unfolding all_visible
  sign-visible v = go minus
    where
      go : (b : Bool) → all_visible (sign_text b ++ m) ≡ true
      go true = rw (visible-yes 45 (omega arith) (omega arith)) v
      go false = v

-- ---- A line of visible bytes, and the LF behind it
module _ (rest : List ℕ) where
  bare-visible : (s : List ℕ) → all_visible s ≡ true → bare_len (s ++ 10 ∷ rest) ≡ length s
  unfolding bare_len all_visible
  bare-visible [] e = refl
  bare-visible (b ∷ s) e =
      let t = and_both (is_visible b) (all_visible s) e in
      let l = visible-least b t.0 in
      rw (ne_eqb b 10 (λ (q : b ≡ 10). omega arith), ne_eqb b 13 (λ (q : b ≡ 13). omega arith)) (ap suc (bare-visible s t.1))

  pass-visible : (s : List ℕ) → all_visible s ≡ true → pass_len (s ++ 10 ∷ rest) ≡ suc (length s)
  unfolding pass_len all_visible
  pass-visible [] e = refl
  pass-visible (b ∷ s) e =
      let t = and_both (is_visible b) (all_visible s) e in
      let l = visible-least b t.0 in
      rw (ne_eqb b 10 (λ (q : b ≡ 10). omega arith)) (ap suc (pass-visible s t.1))

  take-front : (s : List ℕ) → take (length s) (s ++ 10 ∷ rest) ≡ s
  take-front [] = refl
  take-front (b ∷ s) = ap (λ (t : List ℕ). b ∷ t) (take-front s)

-- a line that is one word and a decimal holds it
pub word-item : (s : List ℕ) (d : Decimal) → Word s → length s ≤ 32 → all_visible s ≡ true → mark_of s ≡ Plain → decimal_of s ≡ Some d → item_of s ≡ Value d
unfolding item_of breaks_line is_comment mark_item fields_item number_item
word-item s d w l v m e = rw (le-ltb 1024 (length s) (omega arith), m, visible_plain s v, fields-last w, e)

-- ---- The value that was read
module _ (text : List ℕ) (at start : ℕ) (minus : Bool) (g : SignFrom text at start minus) (r : Spelled) (k : SpelledFrom text start r) where
  abbrev line : List ℕ
  line = sign_text minus ++ k.front

  line-long : at + length line ≡ r.stop
  line-long =
      let a = g.long in
      let b = k.long in
      let n : length line ≡ length (sign_text minus) + length k.front = length-append (sign_text minus) k.front in
      omega arith

  pub value-later : at ≤ r.stop
  value-later = let l = line-long in omega arith

  pub value-behind : r.behind ≤ r.stop - at
  value-behind = go k.form k.behind line-long
    where
      go : {m d f : List ℕ} → Spelt m d f → r.behind ≡ length f → at + length (sign_text minus ++ m) ≡ r.stop → r.behind ≤ r.stop - at
      go (whole d) e l = omega arith
      go (pointed d f) e l =
          let n : length (sign_text minus ++ (d ++ 46 ∷ f)) ≡ length (sign_text minus) + length (d ++ 46 ∷ f) = length-append (sign_text minus) (d ++ 46 ∷ f) in
          let o : length (d ++ 46 ∷ f) ≡ length d + suc (length f) = length-append d (46 ∷ f) in
          omega arith

  module _ (some : 1 ≤ r.count) (short : r.stop - at ≤ 32) (feed : stands_at text r.stop 10 ≡ true) where
    abbrev parts : Parts k.front (k.d ++ k.f) k.f
    parts = spelt-parts k.form k.first k.second

    head : First k.front
    head = let c = k.count in spelt-first k.form k.first (omega arith)

    visible : all_visible line ≡ true
    visible = sign-visible minus k.front head (spelt-visible k.form k.first k.second)

    drop-line : drop at text ≡ line ++ 10 ∷ drop (r.stop + 1) text
    drop-line =
        g.split
        ∙ ap (λ (s : List ℕ). sign_text minus ++ s) (k.split ∙ ap (λ (s : List ℕ). k.front ++ s) (stands-drop text r.stop 10 feed))
        ∙ sym (append_assoc (sign_text minus) k.front (10 ∷ drop (r.stop + 1) text))

    mantissa : is_mantissa k.front ≡ true
    unfolding is_mantissa
    mantissa =
        let c = k.count in
        let n : length (k.d ++ k.f) ≡ length k.d + length k.f = length-append k.d k.f in
        rw (parts.digits, le-leb 1 (length (k.d ++ k.f)) (omega arith)) (all_digits-append k.d k.f ∙ rw (k.first, k.second))

    worth : pointed_of minus r.v r.behind ≡ decimal_of line
    worth =
        let u = sign-rest minus k.front head in
        let v : r.v ≡ value_from 0 (digits (unsigned line)) = k.value ∙ sym (value_from-append k.d k.f 0) ∙ rw (u, parts.digits) in
        let b : r.behind ≡ length (fraction (unsigned line)) = k.behind ∙ rw (u, parts.fraction) in
        let l = line-long in
        let small = k.small in
        rw (v, b) (rw (sign-minus minus k.front head) at (decimal-pointed line (omega arith) (rw u parts.part) (rw u mantissa) (omega arith)))

    pub value-held : (n : Option Decimal) (d : Decimal) → n ≡ pointed_of minus r.v r.behind → n ≡ Some d → ◌≡◌ {A = Held} (record { item = Value d; next = r.stop + 1 }) (held_at text at)
    unfolding held_at bare_of line_at
    value-held n d p q =
        let l = line-long in
        let w = word-item line d (visible-word line (sign-some minus k.front head) visible) (omega arith) visible (sign-mark minus k.front head) (sym worth ∙ sym p ∙ q) in
        let e : at + suc (length line) ≡ r.stop + 1 = omega arith in
        rw (drop-line, bare-visible (drop (r.stop + 1) text) line visible, pass-visible (drop (r.stop + 1) text) line visible, take-front (drop (r.stop + 1) text) line, w, e)
