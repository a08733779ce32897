-- `reader::judge_rows` meets its contract. Assumes nothing.
use Rattle.reader.proofs.Judging.{judged-no, shape-fails, rows-accepted, rows-refused}
use Prim.Native.Nat.{ℕ}
use mathlib.Core.Path.{◌≡◌, sym, ◌∙◌}
use lib.ListN.{length, replicate}
use Rattle.std.proofs.lemmas.List.{length-replicate}
use Rattle.reader.proofs.judge_rows.Goals as goal

-- as many hints as the array has
full : (n : ℕ) → n ≡ length {A = ℕ} (replicate n 0)
full n = sym (length-replicate n 0)

pub returns-then-failing-n : goal.returns-then-failing-n
returns-then-failing-n c = rw c.refused.ensures (judged-no _ _ (shape-fails _ _ _ _ _ _ _ _ c.expand_shapes-failing.ensures.answer c.if-failing-n.true _ c.row_line.ensures))

pub returns-then-is_accepted : goal.returns-then-is_accepted
returns-then-is_accepted c = rows-accepted _ _ _ _ _ _ _ _ c.expand_shapes-failing.ensures.answer c.if-failing-n.false _ c.expand_shapes-failing.ensures.samples _ c.ask_rules-judged.ensures _ c.fill_lengths.ensures

pub returns-else-is_accepted : goal.returns-else-is_accepted
returns-else-is_accepted c = rows-refused _ _ _ _ _ _ _ _ c.expand_shapes-failing.ensures.answer c.if-failing-n.false _ c.expand_shapes-failing.ensures.samples _ c.ask_rules-judged.ensures (sym c.is_accepted.ensures ∙ c.if-is_accepted.false) _

pub slice_bounds-note_rows-end : goal.slice_bounds-note_rows-end
slice_bounds-note_rows-end c = full 524288

pub slice_bounds-table-end : goal.slice_bounds-table-end
slice_bounds-table-end c = full 524288 ∙ sym c.note_rows.auto.hints

pub slice_bounds-fill_lengths-end : goal.slice_bounds-fill_lengths-end
slice_bounds-fill_lengths-end c = full 524288 ∙ sym c.note_rows.auto.hints
