-- How many values lines hold, told by their marks alone: where no line is at fault, as many as are read; and the loop that counts. Assumes nothing.
use Rattle.std.proofs.Common.{None, Option, Some}
use Prim.Native.Nat.{ℕ, ◌+◌, ◌-◌, ◌≤◌}
use mathlib.Core.Bool.{Bool, true, false, cond, false≢true}
use mathlib.Core.List.{List, [], ◌∷◌}
use mathlib.Core.Path.{◌≡◌, refl}
use native.Mathlib.Omega.{arith}
use lib.ListN.{length, take, drop, drop_of_length-le}
use Rattle.text.specs.Lines.{lines_of}
use Rattle.text.specs.Marks.{mark_of, breaks_line}
use Rattle.text.specs.declared.Line.{Line}
use Rattle.text.specs.declared.Mark.{Mark}
use Rattle.text.specs.declared.Mark.TheVariants.{Blank, Comment, Section, Plain}
use Rattle.text.proofs.Cases.{and_both}
use Rattle.text.proofs.Cut.{LineAt}
use Rattle.decimals.specs.Decimal.{decimal_of}
use Rattle.numeral.specs.declared.Decimal.{Decimal}
use Rattle.shape.specs.Stored.{number_item, fields_item, mark_item, item_of, is_sound, all_sound, with_item, values_in}
use Rattle.shape.specs.declared.Item.TheVariants.{Bad}
use Rattle.expanding.specs.Inside.{mark_holds, lines_hold}

-- ---- One line that is not at fault
number-holds : (n : (Option Decimal)) (ds : List Decimal) → is_sound (number_item n) ≡ true → 1 + length ds ≡ length (with_item (number_item n) ds)
unfolding number_item is_sound with_item
number-holds (Some d) ds e = omega arith
number-holds None ds e = absurd (false≢true e)

fields-hold : (fs : List (List ℕ)) (ds : List Decimal) → is_sound (fields_item fs) ≡ true → 1 + length ds ≡ length (with_item (fields_item fs) ds)
unfolding fields_item is_sound
fields-hold [] ds e = absurd (false≢true e)
fields-hold (f ∷ []) ds e = number-holds (decimal_of f) ds e
fields-hold (f ∷ g ∷ fs) ds e = absurd (false≢true e)

mark-holds : (m : Mark) (line : List ℕ) (ds : List Decimal) → is_sound (mark_item m line) ≡ true → mark_holds m + length ds ≡ length (with_item (mark_item m line) ds)
unfolding mark_item is_sound with_item
mark-holds Blank line ds e = absurd (false≢true e)
mark-holds Comment line ds e = omega arith
mark-holds Section line ds e = absurd (false≢true e)
mark-holds Plain line ds e = fields-hold _ ds e

line-holds : (line : List ℕ) (ds : List Decimal) → is_sound (item_of line) ≡ true → mark_holds (mark_of line) + length ds ≡ length (with_item (item_of line) ds)
unfolding item_of
line-holds line ds = go (breaks_line line)
  where
    go : (b : Bool) → is_sound (cond b Bad (mark_item (mark_of line) line)) ≡ true
        → mark_holds (mark_of line) + length ds ≡ length (with_item (cond b Bad (mark_item (mark_of line) line)) ds)
    go true e = absurd (false≢true (unfold is_sound in e))
    go false e = mark-holds (mark_of line) line ds e

-- ---- All lines
pub lines-hold : (ls : List (List ℕ)) → all_sound ls ≡ true → lines_hold ls ≡ length (values_in ls)
unfolding lines_hold all_sound values_in
lines-hold [] e = refl
lines-hold (l ∷ ls) e =
    let b = and_both (is_sound (item_of l)) (all_sound ls) e in
    rw (lines-hold ls b.1) (line-holds l (values_in ls) b.0)

-- ---- Counting: n values so far
pub record Holding (text : List ℕ) (at n : ℕ) : Type 0 where
  pub few : n ≤ at
  pub total : n + lines_hold (lines_of (drop at text)) ≡ lines_hold (lines_of text)

pub holding-start : (text : List ℕ) → Holding text 0 0
holding-start text = record { few = omega arith; total = omega arith }

mark-few : (m : Mark) → mark_holds m ≤ 1
mark-few Blank = omega arith
mark-few Comment = omega arith
mark-few Section = omega arith
mark-few Plain = omega arith

module _ {text : List ℕ} {at n : ℕ} (p : Holding text at n) where
  pub holding-end : length text ≤ at → n ≡ lines_hold (lines_of text)
  unfolding lines_of lines_hold
  holding-end h =
      let e : lines_hold (lines_of (drop at text)) ≡ 0 = rw (drop_of_length-le text h) in
      let t = p.total in
      omega arith

  module _ {r : Line} (l : LineAt text at r) (k : ℕ) (e : k ≡ mark_holds (mark_of (take (r.stop - at) (drop at text)))) where
    abbrev mark : Mark
    mark = mark_of (take (r.stop - at) (drop at text))

    next-holds : lines_hold (lines_of (drop at text)) ≡ k + lines_hold (lines_of (drop r.next text))
    unfolding lines_hold
    next-holds = rw (l.line, e)

    pub holding-few : n + k ≤ r.next
    holding-few =
        let a = p.few in
        let f = l.further in
        let m = mark-few mark in
        omega arith

    pub holding-on : Holding text r.next (n + k)
    holding-on =
        let t = p.total in
        let h = next-holds in
        record { few = holding-few; total = omega arith }
