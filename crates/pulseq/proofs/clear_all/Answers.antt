-- `pulseq::clear_all` meets its contract. Assumes nothing.
use lib.IntN.{pos}
use mathlib.Core.Path.{◌∙◌}
use Rattle.output.proofs.Clear.{cleared-all}
use Rattle.pulseq.proofs.clear_all.Goals as goal

pub returns : goal.returns
returns c = (c.clear_numbers.ensures ∙ cleared-all (pos 0) _, (c.clear_numbers-2.ensures ∙ cleared-all (pos 0) _, c.clear_bytes.ensures ∙ cleared-all 0 _))
