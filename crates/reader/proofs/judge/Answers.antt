-- `reader::judge` meets its contract. Assumes nothing.
use Rattle.reader.proofs.Judging.{judged-no, too-big, all-judged}
use Rattle.reader.proofs.judge.Goals as goal

pub returns-then-is_big : goal.returns-then-is_big
returns-then-is_big c = rw c.refused.ensures (judged-no _ _ (too-big _ _ _ _ _ c.is_big.ensures c.if-is_big.true))

pub returns : goal.returns
returns c = all-judged _ _ _ _ _ c.is_big.ensures c.if-is_big.false c.judge_file.ensures
