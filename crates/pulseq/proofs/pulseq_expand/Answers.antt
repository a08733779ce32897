-- `pulseq::pulseq_expand` meets its contract. In an edition all comes from the contract of expanding (`expand-tells`); in none the samples are cleared (`expand-none`). Assumes nothing.
use lib.IntN.{pos}
use Rattle.output.proofs.Clear.{cleared-all}
use Rattle.pulseq.proofs.Telling.{expand-tells, expand-none}
use mathlib.Core.Path.{sym, ◌∙◌}
use Rattle.pulseq.proofs.pulseq_expand.Goals as goal

pub returns-in-Some : goal.returns-in-Some
returns-in-Some c = expand-tells (sym c.edition_of.ensures ∙ c.in-Some.is) c.expand-expanded.ensures c.number_of-number.ensures c.used_of-used.ensures c.tell.ensures

pub returns-in-None : goal.returns-in-None
returns-in-None c = expand-none (sym c.edition_of.ensures ∙ c.in-None.is) (c.clear_numbers.ensures ∙ cleared-all (pos 0) _) c.tell-in-None.ensures
