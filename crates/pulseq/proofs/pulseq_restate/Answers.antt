-- `pulseq::pulseq_restate` meets its contract. To a target all comes from the contract of restating (`restate-tells`); to none all that is lent is cleared (`restate-none`). Assumes nothing.
use mathlib.Core.Path.{sym, ◌∙◌}
use Rattle.pulseq.proofs.Telling.{restate-tells, restate-none}
use Rattle.pulseq.proofs.pulseq_restate.Goals as goal

pub returns-in-Some : goal.returns-in-Some
returns-in-Some c = restate-tells (sym c.edition_of.ensures ∙ c.in-Some.is) c.restate-restated.ensures c.number-number.ensures c.line-line.ensures c.rows-used.ensures c.samples-count.ensures c.length-size.ensures c.tell.ensures

pub returns-in-None : goal.returns-in-None
returns-in-None c = restate-none (sym c.edition_of.ensures ∙ c.in-None.is) c.clear_all.ensures.0 c.clear_all.ensures.1.0 c.clear_all.ensures.1.1 c.tell-in-None.ensures
