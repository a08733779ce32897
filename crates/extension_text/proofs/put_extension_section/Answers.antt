-- `extension_text::put_extension_section` meets its contract. Assumes nothing.
use mathlib.Core.Path.{sym, ◌∙◌}
use Rattle.extension_text.specs.Extensions.{extension_section, extensions_head}
use Rattle.std.proofs.Common.{arith}
use Rattle.output.proofs.Over.{put-none}
use Rattle.said.proofs.Saying.{section-some, section-none}
use Rattle.extension_text.proofs.put_extension_section.Goals as goal

pub returns-then-has_listed : goal.returns-then-has_listed
unfolding extension_section
returns-then-has_listed c = section-some _ _ _ (sym c.has_listed.ensures ∙ c.if-has_listed.true) c.put_bytes-body.ensures c.put_all_listed-end.ensures c.put_byte.ensures

pub returns : goal.returns
unfolding extension_section
returns c = rw (← section-none _ extensions_head _ (sym c.has_listed.ensures ∙ c.if-has_listed.false)) (put-none (omega arith) (omega arith))
