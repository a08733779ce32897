-- Numbers of a line read where it stands in a text: their digits gathered, and a column of a block. Assumes nothing.
use Rattle.std.proofs.Common.{Option, Some}
use Prim.Native.Nat.{ℕ, ◌+◌, ◌*◌, ◌-◌, ◌≤◌, ◌<◌, min}
use mathlib.Core.Bool.{true, false}
use mathlib.Core.List.{List, ◌∷◌}
use mathlib.Core.Path.{◌≡◌, refl, sym, ap, ◌∙◌}
use native.Mathlib.Omega.{arith}
use borrow.Author.Tests.{leb-true}
use lib.Dec.{leb}
use lib.ListN.{length, get_or, drop}
use Rattle.text.specs.Lines.{bare_of}
use Rattle.text.specs.Marks.{is_blank}
use Rattle.text.specs.Blanks.{skipped}
use Rattle.text.proofs.Cases.{and_both}
use Rattle.text.proofs.Clean.{control-high}
use Rattle.signed.specs.Signed.{signed_of, largest}
use Rattle.fields.specs.Fields.{fields_of}
use Rattle.columns.specs.Columns.{least_of, most_of}
use Rattle.columns.specs.declared.Kind.{Kind}
use Rattle.rows.specs.Cells.{with, row_from}
use Rattle.rows.specs.Inside.{by_digits, fits_column, word_at, CellIs, Along, WordIs, GatheredIs, NumberIs, ColumnIs}
use Rattle.rows.specs.declared.Cell.{Cell}
use Rattle.rows.specs.declared.Cell.TheVariants.{One}
use Rattle.rows.proofs.Along.{along-none, along_then, along-more, along-blanks, fields-blanks, left, byte_inside, byte-is, feed-long, blank-control}
use Rattle.rows.proofs.Digits.{Gathering, begin, small, end, at-blank, turn, WordThere, word-begins, gathered-stop, took_one}

-- ---- The loop over digits: they are of the line, and gathered as in the line by itself
pub record Walking (text : List ℕ) (start v i : ℕ) : Type 0 where
  pub along : Along text start i
  pub digits : Gathering (bare_of (drop start text)) 0 v (i - start)

pub walk_start : (text : List ℕ) (start : ℕ) → Walking text start 0 start
walk_start text start =
    let e : start - start ≡ 0 = omega arith in
    record { along = along-none text start; digits = rw e (begin (bare_of (drop start text)) 0) }

module _ {text : List ℕ} {start v i : ℕ} (g : Walking text start v i) where
  pub walk-small : i - start ≤ 9 → v < 1000000000
  walk-small h = small (bare_of (drop start text)) 0 v (i - start) g.digits (omega arith)

  module _ (h : i < length text) where
    pub walk-feed : get_or text i 0 ≡ 10 → WordIs text start v i
    walk-feed e = record { along = g.along; word = end (bare_of (drop start text)) 0 v (i - start) g.digits (omega (arith, feed-long g.along h e)) }

    pub walk-blank : is_blank (get_or text i 0) ≡ true → WordIs text start v i
    walk-blank e =
        let m = along-more g.along h (blank-control (get_or text i 0) e) in
        record {
          along = g.along;
          word = at-blank (bare_of (drop start text)) 0 v (i - start) g.digits (byte_inside g.along h m) (rw (byte-is g.along h m) e);
        }

    pub walk_turn : 48 ≤ get_or text i 0 → get_or text i 0 ≤ 57 → i - start ≤ 9 → Walking text start (v * 10 + (get_or text i 0 - 48)) (i + 1)
    walk_turn p q k =
        let l = g.along.later in
        let m = along-more g.along h (sym (control-high (get_or text i 0) (omega arith) (λ (e : get_or text i 0 ≡ 127). omega arith))) in
        let b = byte-is g.along h m in
        let e : i + 1 - start ≡ i - start + 1 = omega arith in
        record {
          along = m;
          digits = rw (e, ← b) (turn (bare_of (drop start text)) 0 v (i - start) g.digits (byte_inside g.along h m) (rw b p) (rw b q) (omega arith));
        }

-- what is said of an answer, of the answer that it is
pub gathered-told : {text : List ℕ} {start v stop : ℕ} {r : (Option (ℕ × ℕ))} → GatheredIs text start r → r ≡ Some (v, stop) → WordIs text start v stop
gathered-told h e = rw e at h

pub column-told : {text : List ℕ} {at : ℕ} {kind : Kind} {v stop : ℕ} {r : (Option (ℕ × ℕ))} → ColumnIs text at kind r → r ≡ Some (v, stop) → NumberIs text at kind v stop
column-told h e = rw e at h

-- ---- A column: the same is taken from a line and from another one with the same fields there
pub cell-move : {line other : List ℕ} {at place behind later : ℕ} {kind : Kind} {c : (Option Cell)} {width : ℕ} → fields_of (drop place other) ≡ fields_of (drop at line)
    → fields_of (drop behind line) ≡ fields_of (drop later other) → CellIs line at kind c width behind → CellIs other place kind c width later
cell-move {kind = kind} {c = c} p q t =
    record { wide = t.wide; rest = λ ks. ap (row_from (kind ∷ ks)) p ∙ t.rest ks ∙ ap (λ (fs : List (List ℕ)). with c (row_from ks fs)) q }

-- a number that fits a column
module _ {text : List ℕ} {start v stop : ℕ} (w : WordIs text start v stop) (h : start < stop) (kind : Kind) (d : by_digits kind ≡ true) (f : fits_column kind v ≡ true) where
  first_word : WordThere (bare_of (drop start text)) 0 0
  first_word = word-begins (bare_of (drop start text)) 0 (let e = gathered-stop 0 0 0 (word_at (bare_of (drop start text)) 0) v (stop - start) (sym w.word) in omega arith)

  first_cell : CellIs (bare_of (drop start text)) 0 kind (Some (One (signed_of false (min v largest)))) 1 (stop - start)
  first_cell =
      let b = and_both (leb (least_of kind) v) (leb v (most_of kind)) f in
      took_one first_word kind d refl refl (sym w.word) (signed_of false (min v largest)) (leb-true (least_of kind) v b.0) (leb-true v (most_of kind) b.1) refl

  -- behind blanks
  pub number_is : (at : ℕ) → start ≡ skipped text at → NumberIs text at kind v stop
  number_is at p =
      let s : Along text at start = rw p (along-blanks text at) in
      let a = along_then s w.along in
      record {
        along = a;
        cell = cell-move (fields-blanks text at ∙ rw (← p)) (ap fields_of (left w.along ∙ sym (left a))) first_cell;
      }
