-- `restater::restate` meets its contract. Assumes nothing.
use lib.IntN.{pos}
use mathlib.Core.Path.{sym, ◌∙◌}
use Rattle.output.proofs.Clear.{cleared-all}
use Rattle.restater.proofs.Saying.{restated-text, restated-none}
use Rattle.restater.proofs.restate.Goals as goal

pub returns-then-not-is_text : goal.returns-then-not-is_text
returns-then-not-is_text c = restated-none _ _ _ _ _ _ _ _ _ c.read-read.ensures _ c.ask_also-asked.ensures _ _ c.answer-restated.ensures _ c.length.ensures _ c.clear_bytes.ensures (sym c.is_text.ensures ∙ c.if-not-is_text.true) _ _ (c.clear_numbers.ensures ∙ cleared-all (pos 0) _) (c.clear_numbers-then-not-is_text.ensures ∙ cleared-all (pos 0) _) c.read-read.auto.rows c.read-read.auto.samples

pub returns-else-not-is_text : goal.returns-else-not-is_text
returns-else-not-is_text c = restated-text _ _ _ _ _ _ _ _ _ c.read-read.ensures _ c.ask_also-asked.ensures _ _ c.answer-restated.ensures _ c.length.ensures _ c.clear_bytes.ensures (sym c.is_text.ensures ∙ c.if-not-is_text.false)
