-- `file_rows::show_file` is safe and ends. Assumes nothing.
use mathlib.Core.Path.{sym, ◌∙◌}
use Rattle.passing.proofs.Sound.{sound-scanned}
use Rattle.file_rows.proofs.show_file.Goals as goal

pub show_rows-requires : goal.show_rows-requires
show_rows-requires c = sound-scanned _ (sym c.in-Ok.is ∙ c.scan.ensures.answer)
