-- `shape::plain_item` meets its contract: no field, a second one, or one, which is a decimal or not. Assumes nothing.
use native.Mathlib.Omega.{arith}
use Rattle.fields.proofs.Cut.{field-at, no_field}
use Rattle.shape.specs.Stored.{number_item}
use Rattle.shape.proofs.Items.{item-none, item-one, item-more}
use Rattle.shape.proofs.plain_item.Goals as goal

pub returns-then-line-field : goal.returns-then-line-field
returns-then-line-field c = item-none (no_field _ 0 _ c.next_field-field.ensures c.if-line-field.true)

pub returns-then-second-line : goal.returns-then-second-line
returns-then-second-line c = item-more (field-at _ _ _ c.next_field-field.ensures (omega arith)).field (field-at _ _ _ c.next_field-second.ensures c.if-second-line.true).field

pub slice_bounds-read_decimal-count : goal.slice_bounds-read_decimal-count
slice_bounds-read_decimal-count c = (field-at _ _ _ c.next_field-field.ensures (omega arith)).ordered

pub slice_bounds-read_decimal-start : goal.slice_bounds-read_decimal-start
slice_bounds-read_decimal-start c = (field-at _ _ _ c.next_field-field.ensures (omega arith)).ordered

pub slice_bounds-read_decimal-end : goal.slice_bounds-read_decimal-end
slice_bounds-read_decimal-end c = (field-at _ _ _ c.next_field-field.ensures (omega arith)).within

pub returns-in-Some : goal.returns-in-Some
unfolding number_item
returns-in-Some c =
    item-one (field-at _ _ _ c.next_field-field.ensures (omega arith)).field (no_field _ _ _ c.next_field-second.ensures c.if-second-line.false) _ c.read_decimal.ensures c.in-Some.is

pub returns-in-None : goal.returns-in-None
unfolding number_item
returns-in-None c =
    item-one (field-at _ _ _ c.next_field-field.ensures (omega arith)).field (no_field _ _ _ c.next_field-second.ensures c.if-second-line.false) _ c.read_decimal.ensures c.in-None.is
