-- `finding::Rows::samples_of` meets its contract. Assumes nothing.
use Rattle.std.proofs.Common.{◌∙◌}
use Rattle.signed.proofs.Machine.{rd-is}
use Rattle.tables.proofs.Meeting.{samples-met, samples-unmet}
use Rattle.finding.proofs.Rows.samples_of.Goals as goal

pub returns-then-k-self : goal.returns-then-k-self
returns-then-k-self c = c.samples_at.ensures ∙ samples-met _ _ _ (rd-is c.ranges.id) _ c.met_row-k.ensures c.if-k-self.true

pub returns : goal.returns
returns c = samples-unmet _ _ _ (rd-is c.ranges.id) _ c.met_row-k.ensures c.if-k-self.false
