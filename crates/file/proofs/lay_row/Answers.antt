use mathlib.Core.Path.{◌≡◌, refl, ◌∙◌}
use native.Mathlib.Nat.{add-zero}
use native.Mathlib.Omega.{arith}
use lib.IntN.{pos}
use lib.ListN.{length, get_or}
use Rattle.signed.proofs.Machine.{rd-at}
use Rattle.file.proofs.Laying.{store-turn, store-end, laid-room, laid_none}
use borrow.Author.Rules.{rules}
use Rattle.file.proofs.lay_row.Goals as goal

pub loop-j-init : goal.loop-j-init
loop-j-init c = (omega arith, record { size = refl; rest = rw add-zero })

pub offset_bounds-cells-j : goal.offset_bounds-cells-j
offset_bounds-cells-j c = omega arith

pub bounds-cells-j : goal.bounds-cells-j
bounds-cells-j c = omega arith

pub loop-j-preserved : goal.loop-j-preserved
loop-j-preserved c = let a = c.args in
    let n : length a.cells ≡ 12 = search rules in
    (omega arith, rw (rd-at (get_or a.cells c.loop-j.j (pos 0)) (omega arith)) (store-turn _ _ a.cells _ _ c.loop-j.invariant.1 (omega arith)))

pub shape_of-rows : goal.shape_of-rows
shape_of-rows c = c.loop-j.invariant.1.size

pub returns-after-loop-j : goal.returns-after-loop-j
returns-after-loop-j c = let a = c.args in
    let n : length a.cells ≡ 12 = search rules in
    store-end _ _ _ _ _ c.loop-j.invariant.1 (omega arith) ∙ laid-room a.rows.now a.k a.cells (omega arith)

pub returns-else-k-rows : goal.returns-else-k-rows
returns-else-k-rows c = laid_none _ _ _ (omega arith)
