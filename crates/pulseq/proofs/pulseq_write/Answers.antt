-- `pulseq::pulseq_write` meets its contract. In an edition all comes from the contract of writing (`write-tells`); in none the output is cleared (`write-none`). Assumes nothing.
use Rattle.output.proofs.Clear.{cleared-all}
use Rattle.pulseq.proofs.Telling.{write-tells, write-none}
use mathlib.Core.Path.{sym, ◌∙◌}
use Rattle.pulseq.proofs.pulseq_write.Goals as goal

pub returns-in-Some : goal.returns-in-Some
returns-in-Some c = write-tells (sym c.edition_of.ensures ∙ c.in-Some.is) c.write-written.ensures c.number_of-number.ensures c.length_of-size.ensures c.tell.ensures

pub returns-in-None : goal.returns-in-None
returns-in-None c = write-none (sym c.edition_of.ensures ∙ c.in-None.is) (c.clear_bytes.ensures ∙ cleared-all 0 _) c.tell-in-None.ensures
