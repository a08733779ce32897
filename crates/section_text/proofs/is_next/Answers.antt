-- `section_text::is_next` meets its contract. Assumes nothing.
use Rattle.durations.proofs.Filling.{first-used}
use Rattle.section_text.proofs.Putting.{next-other, next-listed}
use Rattle.section_text.proofs.is_next.Goals as goal

pub returns-then-not-is_kind : goal.returns-then-not-is_kind
returns-then-not-is_kind c = next-other _ _ _ c.requires.k_lt_n _ c.is_kind.ensures c.if-not-is_kind.true

pub returns-then-place-uses : goal.returns-then-place-uses
returns-then-place-uses c = next-listed _ _ _ c.requires.k_lt_n _ c.is_kind.ensures c.if-not-is_kind.false _ (first-used _ _ _ c.args.uses.now.first_used) _ c.requires.used_value _ c.nanos_at.ensures _ c.stands_at-place.ensures c.if-place-uses.true
