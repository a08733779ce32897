-- `stored::stored_next` meets its contract. Assumes nothing.
use mathlib.Core.Bool.{true, false}
use mathlib.Core.Path.{◌≡◌, sym, ap, ◌∙◌}
use Rattle.signed.proofs.Machine.{rd-is}
use Rattle.signed.proofs.Sign.{same_bits}
use borrow.Author.Tests.{eq-eqb, ne_eqb}
use Rattle.signed.specs.Signed.{same_z}
use Rattle.stored.specs.Places.{stored_place}
use Rattle.stored.specs.Inside.{sought_of}
use Rattle.stored.proofs.Walking.{next-on, next-front}
use borrow.Author.Rules.{rules}
use Rattle.stored.proofs.stored_next.Goals.{After-seek-next, Then-next-id, Else-next-id}
use Rattle.stored.proofs.stored_next.Goals as goal

-- what was sought, and whether it has the ID
sought : (c : After-seek-next) → c.seek-next.result ≡ sought_of c.args.file.now c.args.walk true c.args.id
sought c = c.seek-next.ensures ∙ ap (sought_of _ _ true) (rd-is c.ranges.id)

own : (c : Then-next-id) → same_z (sought_of c.args.file.now c.args.walk true c.args.id).id c.args.id ≡ true
own c = rw (← (c.seek-next.ensures ∙ ap (sought_of _ _ true) (rd-is c.ranges.id))) (sym (same_bits c.seek-next.result.id c.args.id (search rules) c.ranges.id.sfits) ∙ eq-eqb _ _ c.if-next-id.true)

other : (c : Else-next-id) → same_z (sought_of c.args.file.now c.args.walk true c.args.id).id c.args.id ≡ false
other c = rw (← (c.seek-next.ensures ∙ ap (sought_of _ _ true) (rd-is c.ranges.id))) (sym (same_bits c.seek-next.result.id c.args.id (search rules) c.ranges.id.sfits) ∙ ne_eqb _ _ c.if-next-id.false)

pub returns-then-next-id : goal.returns-then-next-id
returns-then-next-id c = sought (goal.at.returns-then-next-id c).After-seek-next ∙ next-on _ _ _ (own (goal.at.returns-then-next-id c).Then-next-id)

pub returns : goal.returns
returns c = rw (rd-is c.ranges.id) (next-front _ _ _ (other (goal.at.returns c).Else-next-id) _ (c.stored_place.ensures ∙ ap (stored_place _) (rd-is c.ranges.id)))
