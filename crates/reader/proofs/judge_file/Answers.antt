-- `reader::judge_file` meets its contract. Assumes nothing.
use Rattle.reader.proofs.Judging.{rows-counted, judged-no, line-faulty, block-missing, room-lacks, file-judged}
use Rattle.passing.proofs.Sound.{sound-scanned}
use mathlib.Core.Path.{sym, ◌∙◌}
use native.Mathlib.Omega.{arith}
use Rattle.reader.proofs.judge_file.Goals as goal

pub returns-then-is_missing : goal.returns-then-is_missing
returns-then-is_missing c = rw c.refused.ensures (judged-no _ _ (block-missing _ _ _ _ _ _ _ _ (sym c.in-Ok.is ∙ c.scan_marked-marked.ensures.scanning.answer) _ c.has_block.ensures _ c.is_missing.ensures c.if-is_missing.true))

pub returns-then-lacks_room : goal.returns-then-lacks_room
returns-then-lacks_room c = rw c.refused-then-lacks_room.ensures (judged-no _ _ (room-lacks _ _ _ _ _ _ _ _ (sym c.in-Ok.is ∙ c.scan_marked-marked.ensures.scanning.answer) _ c.has_block.ensures _ c.is_missing.ensures c.if-is_missing.false _ c.scan_marked-marked.auto.rows _ c.lacks_room.ensures c.if-lacks_room.true))

pub judge_texts-requires : goal.judge_texts-requires
judge_texts-requires c = let scanned = sym c.in-Ok.is ∙ c.scan_marked-marked.ensures.scanning.answer in
    let n = rows-counted _ _ _ _ _ scanned in
    record { n_in_bounds = omega arith; file_value = sound-scanned _ scanned; names_value = c.scan_marked-marked.ensures.names; shapes_value = c.scan_marked-marked.ensures.shapes }

pub returns-else-lacks_room : goal.returns-else-lacks_room
returns-else-lacks_room c = file-judged _ _ _ _ _ _ _ _ (sym c.in-Ok.is ∙ c.scan_marked-marked.ensures.scanning.answer) _ c.has_block.ensures _ c.is_missing.ensures c.if-is_missing.false _ c.scan_marked-marked.auto.rows _ c.lacks_room.ensures c.if-lacks_room.false _ c.scan_marked-marked.ensures.scanning.rows c.judge_texts.ensures

pub returns-in-Err : goal.returns-in-Err
returns-in-Err c = rw c.refused-in-Err.ensures (judged-no _ _ (line-faulty _ _ _ _ _ _ (sym c.in-Err.is ∙ c.scan_marked-marked.ensures.scanning.answer) _ c.fault_refusal.ensures))
