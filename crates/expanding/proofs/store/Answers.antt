-- `expanding::store` meets its contract. `set` past the end changes nothing. Assumes nothing.
use mathlib.Core.Path.{sym}
use lib.Seq.{set_out}
use Rattle.expanding.proofs.store.Goals as goal

pub returns-else-at-samples : goal.returns-else-at-samples
returns-else-at-samples c = sym (set_out _ _ _ c.if-at-samples.false)
