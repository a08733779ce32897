-- `decimals::gather` meets its contract. Assumes nothing.
use Rattle.std.proofs.Common.{ℕ, ◌+◌, ◌-◌, ◌*◌, ◌≤◌, ◌<◌, ◌≡◌, ◌∙◌, sym, List, ◌∷◌, true, false, None, length, drop, get_or, add-one, arith}
use lib.ListN.{drop_of_length-le}
use lib.Seq.{drop-cons}
use Rattle.numeral.specs.Digits.{is_digit}
use Rattle.numeral.proofs.Digits.{digit-most}
use Rattle.decimals.specs.Inside.{stop_of, gather_of, at_end, full}
use Rattle.decimals.proofs.Gathering.{gather-add, gather-zero, gather-over, gather-stop}
use Rattle.decimals.proofs.gather.Invariants.{State}
use Rattle.decimals.proofs.gather.Goals.{then-w-lt-FULL, else-w-lt-FULL+then-b-eq48}
use Rattle.decimals.proofs.gather.Goals as goal

module _ (v z : ℕ) (s : List ℕ) (at w k i : ℕ) (g : State v z s at w k i) where
  end : length s ≤ i → at_end w k i ≡ gather_of v z at (drop at s)
  unfolding gather_of
  end h = rw (drop_of_length-le s h) at g.same

  module _ (h : i < length s) where
    here : gather_of w k i (get_or s i 0 ∷ drop (i + 1) s) ≡ gather_of v z at (drop at s)
    here = rw (add-one, ← (drop-cons s i 0 h)) g.same

    stopped : is_digit (get_or s i 0) ≡ false → stop_of (get_or s i 0) w k i ≡ gather_of v z at (drop at s)
    stopped d = sym (gather-stop w k i (get_or s i 0) (drop (i + 1) s) d) ∙ here

    module _ (d : is_digit (get_or s i 0) ≡ true) where
      add : w < full → State v z s at (w * 10 + (get_or s i 0 - 48)) k (i + 1)
      add l =
          let q = digit-most (get_or s i 0) d in
          record {
            inside = omega arith;
            small = omega arith;
            count = omega arith;
            same = sym (gather-add w k i (get_or s i 0) (drop (i + 1) s) d l) ∙ here;
          }

      module _ (l : full ≤ w) where
        zero_more : get_or s i 0 ≡ 48 → State v z s at w (k + 1) (i + 1)
        zero_more e =
            record {
              inside = omega arith;
              small = g.small;
              count = omega arith;
              same = sym (gather-zero w k i (get_or s i 0) (drop (i + 1) s) d l e) ∙ here;
            }

        over : (get_or s i 0 ≡ 48 → ⊥) → None ≡ gather_of v z at (drop at s)
        over n = sym (gather-over w k i (get_or s i 0) (drop (i + 1) s) d l n) ∙ here

pub returns-then-not-is_ascii_digit : goal.returns-then-not-is_ascii_digit
unfolding is_digit
returns-then-not-is_ascii_digit c = c.stop_at.ensures ∙ stopped _ _ _ _ _ _ _ c.loop-i.invariant (omega arith) (sym c.is_ascii_digit.ensures.value ∙ c.if-not-is_ascii_digit.true)

pub returns-else-b-eq48 : goal.returns-else-b-eq48
unfolding is_digit
returns-else-b-eq48 c = over _ _ _ _ _ _ _ c.loop-i.invariant (omega arith) (sym c.is_ascii_digit.ensures.value ∙ c.if-not-is_ascii_digit.false) c.if-w-lt-FULL.false c.if-b-eq48.false

pub loop-i-preserved : goal.loop-i-preserved
unfolding is_digit
loop-i-preserved c =
    let g = c.loop-i.invariant in
    let d = sym c.is_ascii_digit.ensures.value ∙ c.if-not-is_ascii_digit.false in
    elim c.if-w-lt-FULL.branch [
      | then-w-lt-FULL x ↦ rw (x.w-is, x.k-is, x.from.ensures) (add _ _ _ _ _ _ _ g (omega arith) d x.if-w-lt-FULL.true)
      | else-w-lt-FULL+then-b-eq48 y ↦ rw (y.w-is, y.k-is) (zero_more _ _ _ _ _ _ _ g (omega arith) d y.if-w-lt-FULL.false y.if-b-eq48.true)
    ]

pub returns : goal.returns
returns c =
    let g = c.loop-i.invariant in
    let e : length c.args.s.now ≡ c.loop-i.i = omega (arith, g.inside) in
    rw e (end _ _ _ _ _ _ _ g (omega arith))
