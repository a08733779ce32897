-- `definition_text::put_found` meets its contract. Assumes nothing.
use Rattle.std.proofs.Common.{arith}
use Rattle.output.proofs.Over.{put-none}
use Rattle.grammar.specs.Definitions.{key_of}
use Rattle.definition_text.proofs.put_found.Goals as goal

pub returns-then-is_defined : goal.returns-then-is_defined
unfolding key_of
returns-then-is_defined c = rw (← c.is_defined.ensures, c.if-is_defined.true, ← c.field.ensures, ← c.value.ensures) c.put_definition.ensures

pub returns : goal.returns
returns c = rw (← c.is_defined.ensures, c.if-is_defined.false) (put-none (omega arith) (omega arith))
