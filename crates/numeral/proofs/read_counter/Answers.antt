-- `numeral::read_counter` meets its contract: with a minus, and with none. Assumes nothing.
use Prim.Native.Nat.{◌≤◌}
use mathlib.Core.Path.{◌∙◌, sym, ap}
use lib.ListN.{length}
use Rattle.numeral.specs.Integer.{integer_of, signed_as}
use Rattle.numeral.proofs.Parts.{tail-part}
use Rattle.numeral.proofs.Outcomes.{minus-length, held-integer, counter-minus, counter-plain}
use Rattle.numeral.proofs.read_counter.Goals.{Then-is_minus}
use Rattle.numeral.proofs.read_counter.Goals as goal

pub slice_bounds-read_integer-count : goal.slice_bounds-read_integer-count
slice_bounds-read_integer-count c =
    let some : 1 ≤ length c.args.field.now = minus-length _ (sym c.is_minus.ensures ∙ c.if-is_minus.true) in
    some

pub slice_bounds-read_integer-start : goal.slice_bounds-read_integer-start
slice_bounds-read_integer-start c =
    let some : 1 ≤ length c.args.field.now = minus-length _ (sym c.is_minus.ensures ∙ c.if-is_minus.true) in
    some

pub signed_as-requires : goal.signed_as-requires
signed_as-requires c = held-integer _ _ _ _ c.read_integer.ensures

pub returns-then-is_minus : goal.returns-then-is_minus
returns-then-is_minus c = let f = c.args.field.now in
    c.signed_as.ensures
    ∙ ap (signed_as _) (c.read_integer.ensures ∙ ap (integer_of 0 _) (tail-part f 1))
    ∙ counter-minus _ f (sym c.is_minus.ensures ∙ c.if-is_minus.true)

pub signed_as-requires-2 : goal.signed_as-requires-2
signed_as-requires-2 c = held-integer _ _ _ _ c.read_integer-2.ensures

pub returns : goal.returns
returns c = c.signed_as-2.ensures ∙ ap (signed_as _) c.read_integer-2.ensures ∙ counter-plain _ _ (sym c.is_minus.ensures ∙ c.if-is_minus.false)
