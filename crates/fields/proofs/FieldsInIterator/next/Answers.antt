-- `next` of `fields::FieldsIn` gives the first field that is left. Assumes nothing.
use Rattle.std.proofs.Common.{arith, rules}
use Rattle.std.proofs.lemmas.List.{take_rest}
use Rattle.fields.proofs.Cut.{FieldAt, field-at, no_field}
use Rattle.fields.proofs.FieldsInIterator.next.Goals as goal

pub returns-then-line-start-clause-steps : goal.returns-then-line-start-clause-steps
returns-then-line-start-clause-steps c = let n = no_field c.args.self.now.0.now 0 _ c.next_field-start.ensures c.if-line-start.true in (n, n)

pub slice_bounds-self-count : goal.slice_bounds-self-count
slice_bounds-self-count c = (field-at _ _ _ c.next_field-start.ensures (omega arith)).within

pub slice_bounds-self-start : goal.slice_bounds-self-start
slice_bounds-self-start c = (field-at _ _ _ c.next_field-start.ensures (omega arith)).within

pub slice_bounds-result-count : goal.slice_bounds-result-count
slice_bounds-result-count c = (field-at _ _ _ c.next_field-start.ensures (omega arith)).ordered

pub slice_bounds-result-start : goal.slice_bounds-result-start
slice_bounds-result-start c = (field-at _ _ _ c.next_field-start.ensures (omega arith)).ordered

pub slice_bounds-result-end : goal.slice_bounds-result-end
slice_bounds-result-end c = (field-at _ _ _ c.next_field-start.ensures (omega arith)).within

pub returns-clause-steps : goal.returns-clause-steps
returns-clause-steps c =
    let seen : FieldAt c.args.self.now.0.now 0 c.next_field-start.result = field-at _ _ _ c.next_field-start.ensures (omega arith) in
    rw take_rest seen.field

pub returns-clause-goes : goal.returns-clause-goes
returns-clause-goes c =
    let seen : FieldAt c.args.self.now.0.now 0 c.next_field-start.result = field-at _ _ _ c.next_field-start.ensures (omega arith) in
    let f = seen.field in
    search (rules, take_rest)
