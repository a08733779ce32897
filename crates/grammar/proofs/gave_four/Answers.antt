-- `grammar::gave_four` meets its contract. Assumes nothing.
use mathlib.Core.Path.{◌∙◌}
use Rattle.signed.proofs.Machine.{rd-is}
use Rattle.grammar.proofs.gave_four.Goals as goal

pub returns : goal.returns
returns c = let f = c.ranges in c.gave.ensures ∙ rw (rd-is f.kind, rd-is f.a, rd-is f.b, rd-is f.c, rd-is f.d)
