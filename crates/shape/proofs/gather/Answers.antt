-- `shape::gather` meets its contract. Assumes nothing.
use Rattle.std.proofs.Common.{◌∙◌, sym, arith}
use Rattle.numeral.specs.Digits.{is_digit}
use Rattle.shape.proofs.Spelling.{gather-start, gather-turn}
use Rattle.shape.proofs.gather.Goals as goal

pub loop-i-init : goal.loop-i-init
loop-i-init c = gather-start _ _ _ c.requires

pub loop-i-preserved : goal.loop-i-preserved
unfolding is_digit
loop-i-preserved c = rw c.from.ensures (gather-turn _ _ _ _ _ c.loop-i.invariant (omega arith) (sym c.is_ascii_digit.ensures.value ∙ c.if-not-is_ascii_digit.false) c.if-w-ge-FULL.false)
