-- Loops over stored lines: what is left at a place behind a line; where counting stands, and the laws of a start, a turn and each end. Assumes
-- nothing.
use Rattle.std.proofs.Common.{None, Some}
use Prim.Native.Nat.{ℕ, ◌+◌, ◌-◌, ◌≤◌}
use mathlib.Core.Bool.{Bool, true, false, cond}
use mathlib.Core.List.{List, []}
use mathlib.Core.Path.{◌≡◌, refl, sym, ap, ◌∙◌}
use native.Mathlib.Omega.{arith}
use lib.ListN.{length, take, drop, drop_of_length-le}
use Rattle.text.specs.Lines.{lines_of}
use Rattle.text.specs.declared.Line.{Line}
use Rattle.text.proofs.Cut.{LineAt}
use Rattle.numeral.specs.declared.Decimal.{Decimal}
use Rattle.shape.specs.Stored.{item_of, is_sound, all_sound, with_item, values_in, values_of, values_at, count_of}
use Rattle.shape.specs.declared.Item.{Item}
use Rattle.shape.specs.declared.Item.TheVariants.{Value, Skipped, Bad}

-- ---- no line left
pub values-end : (text : List ℕ) (at : ℕ) → length text ≤ at → values_at text at ≡ []
unfolding values_of lines_of values_in
values-end text at h = rw (drop_of_length-le text h)

pub sound-end : (text : List ℕ) (at : ℕ) → length text ≤ at → all_sound (lines_of (drop at text)) ≡ true
unfolding lines_of all_sound
sound-end text at h = rw (drop_of_length-le text h)

-- ---- one line, which holds i, and what follows
module _ {text : List ℕ} {at : ℕ} {r : Line} (l : LineAt text at r) {i : Item} (e : item_of (take (r.stop - at) (drop at text)) ≡ i) where
  pub values-line : values_at text at ≡ with_item i (values_at text r.next)
  unfolding values_of values_in
  values-line = rw (l.line, e)

  pub sound-line : (b : Bool) → is_sound i ≡ b → all_sound (lines_of (drop at text)) ≡ cond b (all_sound (lines_of (drop r.next text))) false
  unfolding all_sound
  sound-line true s = rw (l.line, e, s)
  sound-line false s = rw (l.line, e, s)

-- ---- counting: n values so far, and no line at fault
pub record Counting (text : List ℕ) (at n : ℕ) : Type 0 where
  pub few : n ≤ at
  pub sound : all_sound (lines_of (drop at text)) ≡ all_sound (lines_of text)
  pub total : n + length (values_at text at) ≡ length (values_of text)

pub counting-start : (text : List ℕ) → Counting text 0 0
counting-start text = record { few = omega arith; sound = refl; total = omega arith }

module _ {text : List ℕ} {at n : ℕ} (p : Counting text at n) where
  pub counting-end : length text ≤ at → Some n ≡ count_of text
  unfolding count_of
  counting-end h =
      let e : length (values_at text at) ≡ 0 = ap length (values-end text at h) in
      let t = p.total in
      let m : n ≡ length (values_of text) = omega arith in
      rw (← p.sound, sound-end text at h, m)

  module _ {r : Line} (l : LineAt text at r) where
    pub counting-faulty : item_of (take (r.stop - at) (drop at text)) ≡ Bad → None ≡ count_of text
    unfolding count_of is_sound
    counting-faulty e = rw (← p.sound, sound-line l e false refl)

    counting-on : {i : Item} → item_of (take (r.stop - at) (drop at text)) ≡ i → is_sound i ≡ true → (m : ℕ) → m ≤ n + 1
        → m + length (values_at text r.next) ≡ n + length (with_item i (values_at text r.next)) → Counting text r.next m
    counting-on e s m b v =
        let a = p.few in
        let f = l.further in
        let t = p.total in
        let u = ap length (values-line l e) in
        record {
          few = omega arith;
          sound = sym (sound-line l e true s) ∙ p.sound;
          total = omega arith;
        }

    pub counting-value : {d : Decimal} → item_of (take (r.stop - at) (drop at text)) ≡ Value d → Counting text r.next (n + 1)
    unfolding is_sound with_item
    counting-value e = counting-on e refl (n + 1) (omega arith) (omega arith)

    pub counting-skipped : item_of (take (r.stop - at) (drop at text)) ≡ Skipped → Counting text r.next n
    unfolding is_sound with_item
    counting-skipped e = counting-on e refl n (omega arith) refl
