-- Digits of a line gathered up to a blank, and that they are the integer of a column. Assumes nothing.
use Rattle.std.proofs.lemmas.Option.{same_Some}
use Rattle.std.proofs.Common.{None, Some}
use Prim.Native.Nat.{ℕ, suc, ◌+◌, ◌*◌, ◌-◌, ◌^◌, ◌≤◌, ◌<◌, min}
use mathlib.Core.Bool.{true, false, ◌&&◌, and-false, false≢true}
use mathlib.Core.List.{List, [], ◌∷◌}
use mathlib.Core.Logic.{⊎_elim}
use mathlib.Core.Path.{◌≡◌, refl, sym, ap, ◌∙◌}
use native.Mathlib.Nat.{add-zero, zero-add, lt_of_lt_of_le, pow-le-pow_right, pow-suc}
use native.Mathlib.Numerals.{add-one}
use native.Mathlib.Omega.{arith}
use borrow.Author.Tests.{ne_eqb, le-leb, lt-leb}
use lib.Dec.{leb, lit<}
use lib.IntN.{ℤ}
use lib.ListN.{length, get_or, drop, length-drop, drop_of_length-le}
use lib.Seq.{drop-cons, length-take-le}
use Rattle.signed.specs.Signed.{signed_of, largest}
use Rattle.text.specs.Marks.{is_blank}
use Rattle.text.specs.Blanks.{skipped}
use Rattle.text.proofs.Cases.{true-or-false, lt-or-ge, cond_yes, cond_no}
use Rattle.text.proofs.Places.{skip_stop}
use Rattle.text.proofs.Cut.{add-sub-left}
use Rattle.fields.specs.Fields.{fields_of, word_len}
use Rattle.fields.specs.declared.Part.{Part}
use Rattle.fields.proofs.Places.{word_end, field_is}
use Rattle.fields.proofs.Cut.{field-at, no_field}
use Rattle.numeral.specs.Digits.{is_digit, all_digits, value_from, value_of}
use Rattle.numeral.specs.Integer.{in_range, is_integer, integer_of}
use Rattle.numeral.proofs.Digits.{digit-yes, digit_low, digit-high}
use Rattle.numeral.proofs.Integer.{range-low, range-above, range-value, integer-bad, integer-value}
use Rattle.columns.specs.Columns.{is_absent, least_of, most_of}
use Rattle.columns.specs.declared.Kind.{Kind}
use Rattle.columns.specs.declared.Kind.TheVariants.{Id, Reference, Required, Micros, Duration, Count, Natural, Decimal, Dwell, Absent}
use Rattle.rows.specs.Cells.{integer_cell, cell_of, with, row_from}
use Rattle.rows.specs.Inside.{by_digits, word_at, gathered_of, CellIs}
use Rattle.rows.specs.declared.Cell.TheVariants.{One}
use Rattle.rows.proofs.Cells.{integer-good, integer-none, one-wide}
use Rattle.rows.proofs.Rows.{row_field, with-bad}

-- ---- The word at a place, one byte at a time
module _ (line : List ℕ) (i : ℕ) where
  word_none : length line ≤ i → word_at line i ≡ []
  unfolding word_at word_len
  word_none h = rw (drop_of_length-le line h)

  module _ (h : i < length line) where
    word-stop : is_blank (get_or line i 0) ≡ true → word_at line i ≡ []
    unfolding word_at word_len
    word-stop e = rw (drop-cons line i 0, e)

    word_more : is_blank (get_or line i 0) ≡ false → word_at line i ≡ get_or line i 0 ∷ word_at line (i + 1)
    unfolding word_at word_len
    word_more e = rw (add-one i, drop-cons line i 0, e)

-- ---- Digits, one at a time
module _ (v k i : ℕ) where
  gathered-end : k ≤ 10 → Some (v, i) ≡ gathered_of v k i []
  unfolding gathered_of all_digits value_from
  gathered-end h = rw (add-zero k, le-leb k 10 h, add-zero i)

  module _ (b : ℕ) (w : List ℕ) where
    gathered-other : is_digit b ≡ false → None ≡ gathered_of v k i (b ∷ w)
    unfolding gathered_of all_digits
    gathered-other e = rw (e, and-false)

    gathered-long : 9 < k → None ≡ gathered_of v k i (b ∷ w)
    unfolding gathered_of
    gathered-long h = rw (lt-leb (k + suc (length w)) 10 (omega arith))

    gathered-more : is_digit b ≡ true → gathered_of (v * 10 + (b - 48)) (k + 1) (i + 1) w ≡ gathered_of v k i (b ∷ w)
    unfolding gathered_of all_digits value_from
    gathered-more e =
        let p : k + 1 + length w ≡ k + suc (length w) = omega arith in
        let q : i + 1 + length w ≡ i + suc (length w) = omega arith in
        rw (p, q, e)

-- no blank is a digit, or above one
solid : (b : ℕ) → 48 ≤ b → is_blank b ≡ false
unfolding is_blank
solid b h = rw (ne_eqb b 32 (λ (e : b ≡ 32). omega arith), ne_eqb b 9 (λ (e : b ≡ 9). omega arith))

-- ---- The loop: what is left from i on, behind the digits so far, is what stands from `start` on
pub record Gathering (line : List ℕ) (start v i : ℕ) : Type 0 where
  pub later : start ≤ i
  pub few : i - start ≤ 10
  pub size : v < 10 ^ (i - start)
  pub rest : gathered_of v (i - start) i (word_at line i) ≡ gathered_of 0 0 start (word_at line start)

pub begin : (line : List ℕ) (start : ℕ) → Gathering line start 0 start
begin line start =
    let e : start - start ≡ 0 = omega arith in
    record { later = omega arith; few = omega arith; size = rw e (lit< tt); rest = rw e }

module _ (line : List ℕ) (start v i : ℕ) (g : Gathering line start v i) where
  pub small : i - start ≤ 9 → v < 1000000000
  small h = lt_of_lt_of_le g.size (pow-le-pow_right {n = 10} (lit< tt) h)

  pub end : length line ≤ i → Some (v, i) ≡ gathered_of 0 0 start (word_at line start)
  end h = rw (← g.rest, word_none line i h) (gathered-end v (i - start) i g.few)

  module _ (h : i < length line) where
    pub at-blank : is_blank (get_or line i 0) ≡ true → Some (v, i) ≡ gathered_of 0 0 start (word_at line start)
    at-blank e = rw (← g.rest, word-stop line i h e) (gathered-end v (i - start) i g.few)

    pub below : is_blank (get_or line i 0) ≡ false → get_or line i 0 < 48 → None ≡ gathered_of 0 0 start (word_at line start)
    below e p = rw (← g.rest, word_more line i h e) (gathered-other v (i - start) i _ _ (digit_low _ p))

    pub above : 57 < get_or line i 0 → None ≡ gathered_of 0 0 start (word_at line start)
    above p = rw (← g.rest, word_more line i h (solid _ (omega arith))) (gathered-other v (i - start) i _ _ (digit-high _ p))

    module _ (p : 48 ≤ get_or line i 0) where
      pub long : 9 < i - start → None ≡ gathered_of 0 0 start (word_at line start)
      long k = rw (← g.rest, word_more line i h (solid _ p)) (gathered-long v (i - start) i _ _ k)

      pub turn : get_or line i 0 ≤ 57 → i - start ≤ 9 → Gathering line start (v * 10 + (get_or line i 0 - 48)) (i + 1)
      turn q k =
          let l = g.later in
          let s = g.size in
          let e : i + 1 - start ≡ i - start + 1 = omega arith in
          record {
            later = omega arith;
            few = omega arith;
            size = rw (e, add-one (i - start), pow-suc 10 (i - start)) (omega arith);
            rest = rw (← g.rest, word_more line i h (solid _ p), e) (gathered-more v (i - start) i _ _ (digit-yes _ p q));
          }

-- ---- The field from a place on is the word behind the blanks
pub record WordThere (line : List ℕ) (at start : ℕ) : Type 0 where
  pub some : 1 ≤ length (word_at line start)
  pub field : fields_of (drop at line) ≡ word_at line start ∷ fields_of (drop (start + length (word_at line start)) line)

module _ (line : List ℕ) (at start : ℕ) (p : start ≡ skipped line at) where
  abbrev part : Part
  part = record { start = start; stop = word_end line start }

  pub none-there : length line ≤ start → fields_of (drop at line) ≡ []
  none-there h = no_field line at part (field_is line at start (word_end line start) p refl) h

  pub word-there : start < length line → WordThere line at start
  unfolding word_at word_end
  word-there h =
      let f = field-at line at part (field_is line at start (word_end line start) p refl) h in
      let w = f.within in
      let s = f.some in
      let d = length-drop start line in
      let n = length-take-le (word_len (drop start line)) (drop start line) (omega arith) in
      record { some = omega arith; field = rw n (rw add-sub-left at f.field) }

-- where a word starts no blank is skipped
pub word-begins : (line : List ℕ) (i : ℕ) → 1 ≤ length (word_at line i) → WordThere line i i
word-begins line i s =
    ⊎_elim
    (λ (h : i < length line). ⊎_elim
    (λ (b : is_blank (get_or line i 0) ≡ true). absurd (empty (word-stop line i h b)))
    (λ (b : is_blank (get_or line i 0) ≡ false). word-there line i i (skip_stop line i h b) h)
    (true-or-false (is_blank (get_or line i 0))))
    (λ (h : length line ≤ i). absurd (empty (word_none line i h)))
    (lt-or-ge i (length line))
  where
    empty : word_at line i ≡ [] → ⊥
    empty e = let n : length (word_at line i) ≡ 0 = ap length e in omega arith

-- ---- Digits that were gathered are the integer that the field is
-- they stop behind the word
pub gathered-stop : (v k i : ℕ) (w : List ℕ) (x y : ℕ) → gathered_of v k i w ≡ Some (x, y) → i + length w ≡ y
unfolding gathered_of
gathered-stop v k i w x y e =
    let t = cond_yes (leb (k + length w) 10 && all_digits w) (Some ((value_from v w), (i + length w))) {y = None} {z = Some (x, y)} (λ q. let z : ◌≡◌ {A = ℕ} 0 1 = cc in omega arith) e in
    ap (λ (p : ℕ × ℕ). p.1) (same_Some _ _ t.1)

module _ (low high start : ℕ) (w : List ℕ) (h : 1 ≤ length w) where
  whole : is_integer w ≡ leb (0 + length w) 10 && all_digits w
  unfolding is_integer
  whole = rw (le-leb 1 (length w) h, zero-add)

  gathered-bad : gathered_of 0 0 start w ≡ None → integer_of low high w ≡ None
  unfolding gathered_of
  gathered-bad e =
      sym (integer-bad low high w (whole ∙ cond_no (leb (0 + length w) 10 && all_digits w) None (λ q. let z : ◌≡◌ {A = ℕ} 0 1 = cc in omega arith) e))

  gathered-good : (v stop : ℕ) → gathered_of 0 0 start w ≡ Some (v, stop) → (integer_of low high w ≡ in_range low high v) × (start + length w ≡ stop)
  unfolding gathered_of
  gathered-good v stop e =
      let t = cond_yes (leb (0 + length w) 10 && all_digits w) (Some ((value_of w), (start + length w))) {y = None} {z = Some (v, stop)} (λ q. let z : ◌≡◌ {A = ℕ} 0 1 = cc in omega arith) e in
      let x : value_of w ≡ v = ap (λ (p : ℕ × ℕ). p.0) (same_Some _ _ t.1) in
      (sym (integer-value low high w (whole ∙ t.0)) ∙ ap (in_range low high) x, gathered-stop 0 0 start w v stop e)

-- ---- A column of an integer
pub digits-present : (k : Kind) → by_digits k ≡ true → is_absent k ≡ false
digits-present Id e = refl
digits-present Reference e = refl
digits-present Required e = refl
digits-present Micros e = refl
digits-present Duration e = refl
digits-present Count e = refl
digits-present Natural e = refl
digits-present Decimal e = refl
digits-present Dwell e = refl
digits-present Absent e = absurd (false≢true e)

digits-cell : (k : Kind) → by_digits k ≡ true → (f : List ℕ) → cell_of k f ≡ integer_cell k f
unfolding cell_of
digits-cell Id e f = refl
digits-cell Reference e f = refl
digits-cell Required e f = refl
digits-cell Micros e f = refl
digits-cell Duration e f = refl
digits-cell Count e f = refl
digits-cell Natural e f = refl
digits-cell Decimal e f = absurd (false≢true e)
digits-cell Dwell e f = absurd (false≢true e)
digits-cell Absent e f = absurd (false≢true e)

-- what is taken where a word stands, by what was gathered of it
module _ {line : List ℕ} {at start : ℕ} (t : WordThere line at start) (kind : Kind) (d : by_digits kind ≡ true) where
  row-integer : (ks : List Kind)
      → row_from (kind ∷ ks) (fields_of (drop at line)) ≡ with (integer_cell kind (word_at line start)) (row_from ks (fields_of (drop (start + length (word_at line start)) line)))
  row-integer ks = rw (t.field, ← (digits-cell kind d (word_at line start))) (row_field kind ks _ _ (digits-present kind d))

  module _ {low high : ℕ} (l : low ≡ least_of kind) (h : high ≡ most_of kind) where
    refused : integer_of low high (word_at line start) ≡ None → (ks : List Kind) → row_from (kind ∷ ks) (fields_of (drop at line)) ≡ None
    refused e ks = row-integer ks ∙ with-bad _ _ (sym (integer-none kind (word_at line start) low high l h e))

    pub took-bad : gathered_of 0 0 start (word_at line start) ≡ None → (ks : List Kind) → row_from (kind ∷ ks) (fields_of (drop at line)) ≡ None
    took-bad e = refused (gathered-bad low high start (word_at line start) t.some e)

    module _ {v stop : ℕ} (e : gathered_of 0 0 start (word_at line start) ≡ Some (v, stop)) where
      read : (integer_of low high (word_at line start) ≡ in_range low high v) × (start + length (word_at line start) ≡ stop)
      read = gathered-good low high start (word_at line start) t.some v stop e

      pub took-low : v < low → (ks : List Kind) → row_from (kind ∷ ks) (fields_of (drop at line)) ≡ None
      took-low p = refused (read.0 ∙ sym (range-low low high v p))

      pub took-high : high < v → (ks : List Kind) → row_from (kind ∷ ks) (fields_of (drop at line)) ≡ None
      took-high p = refused (read.0 ∙ sym (range-above low high v p))

      pub took_one : (z : ℤ) → low ≤ v → v ≤ high → z ≡ signed_of false (min v largest) → CellIs line at kind (Some (One z)) 1 stop
      took_one z p q r =
          let c : Some (One z) ≡ integer_cell kind (word_at line start) = integer-good kind (word_at line start) low high l h v z (read.0 ∙ sym (range-value low high v p q)) r in
          record {
            wide = one-wide kind (word_at line start) z (digits-cell kind d (word_at line start) ∙ sym c);
            rest = λ ks. rw (← read.1, c) (row-integer ks);
          }

-- a word that starts with no digit
pub no-digits : {line : List ℕ} {at start : ℕ} → WordThere line at start → start < length line → is_digit (get_or line start 0) ≡ false → is_blank (get_or line start 0) ≡ false → (kind : Kind) → by_digits kind ≡ true
    → (ks : List Kind) → row_from (kind ∷ ks) (fields_of (drop at line)) ≡ None
no-digits {line} {at} {start} t h e f kind d ks = took-bad t kind d refl refl (rw (word_more line start h f) (sym (gathered-other 0 0 start (get_or line start 0) (word_at line (start + 1)) e))) ks
