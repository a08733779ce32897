-- The loop to the next value: what is known where it stands at a place, and the laws of a start, a turn and each end. Assumes nothing.
use Prim.Native.Nat.{ℕ, ◌-◌, ◌≤◌}
use mathlib.Core.Bool.{true, false}
use mathlib.Core.List.{List}
use mathlib.Core.Path.{◌≡◌, refl, ◌∙◌}
use native.Mathlib.Omega.{arith}
use lib.ListN.{length, take, drop}
use Rattle.text.specs.declared.Line.{Line}
use Rattle.text.proofs.Cut.{LineAt}
use Rattle.numeral.specs.declared.Decimal.{Decimal}
use Rattle.shape.specs.Stored.{item_of, is_sound, with_item, values_at}
use Rattle.shape.specs.declared.Item.TheVariants.{Value, Skipped, Bad}
use Rattle.shape.proofs.Counting.{values-end, sound-end, values-line, sound-line}
use Rattle.expanding.specs.Inside.{sound_at, ValueAt, EndAt}

-- ---- the next value from a place on: only comments were passed
pub record Passing (text : List ℕ) (from at : ℕ) : Type 0 where
  pub later : from ≤ at
  pub sound : sound_at text from ≡ sound_at text at
  pub same : values_at text from ≡ values_at text at

pub passing-start : (text : List ℕ) (from : ℕ) → Passing text from from
passing-start text from = record { later = omega arith; sound = refl; same = refl }

module _ {text : List ℕ} {from at : ℕ} (p : Passing text from at) where
  pub passing-end : length text ≤ at → EndAt text from
  passing-end h = record { sound = p.sound ∙ sound-end text at h; values = p.same ∙ values-end text at h }

  module _ {r : Line} (l : LineAt text at r) where
    pub passing-value : {d : Decimal} → item_of (take (r.stop - at) (drop at text)) ≡ Value d → ValueAt text from d r.next
    unfolding with_item is_sound
    passing-value e =
        let n = p.later in
        let m = l.further in
        record {
          further = omega arith;
          inside = l.inside;
          sound = p.sound ∙ sound-line l e true refl;
          values = p.same ∙ values-line l e;
        }

    pub passing-skipped : item_of (take (r.stop - at) (drop at text)) ≡ Skipped → Passing text from r.next
    unfolding with_item is_sound
    passing-skipped e =
        let n = p.later in
        let m = l.further in
        record { later = omega arith; sound = p.sound ∙ sound-line l e true refl; same = p.same ∙ values-line l e }

    pub passing-bad : item_of (take (r.stop - at) (drop at text)) ≡ Bad → sound_at text from ≡ false
    unfolding is_sound
    passing-bad e = p.sound ∙ sound-line l e false refl
