-- `file_checks::judge_file` is safe and ends. Assumes nothing.
use mathlib.Core.Path.{sym, ◌∙◌}
use Rattle.passing.proofs.Sound.{sound-scanned}
use Rattle.file_checks.proofs.judge_file.Goals as goal

pub judge_texts-requires : goal.judge_texts-requires
judge_texts-requires c = record { file_value = sound-scanned _ (sym c.in-Ok.is ∙ c.scan_marked-marked.ensures.scanning.answer); names_value = c.scan_marked-marked.ensures.names; shapes_value = c.scan_marked-marked.ensures.shapes }
