use Rattle.std.proofs.Common.{Option, Some, None}
use Prim.Native.Nat.{ℕ, ◌+◌, ◌≤◌, ◌<◌}
use mathlib.Core.List.{List}
use mathlib.Core.Path.{◌≡◌, sym, ◌∙◌, ap}
use native.Mathlib.Omega.{arith}
use lib.ListN.{get_or, length, set}
use Rattle.fields.proofs.Cut.{field-at, no_field}
use Rattle.signed.proofs.Machine.{rd-at}
use Rattle.columns.specs.Columns.{columns_of}
use Rattle.columns.specs.Rows.{blank}
use Rattle.rows.specs.Inside.{TakenIs, CellIs}
use Rattle.columns.specs.declared.Kind.{Kind}
use Rattle.columns.specs.declared.Kind.TheVariants.{Absent}
use Rattle.rows.specs.declared.Cell.{Cell}
use Rattle.rows.specs.declared.Cell.TheVariants.{One, Two}
use Rattle.rows.proofs.Rows.{start, fits-cell, turn_one, turn_two, bad, good-end, long-end, no_row}
use Rattle.rows.proofs.read_row.Goals.{In-One, In-Two, in-One, in-Two}
use Rattle.rows.proofs.read_row.Goals as goal

took : (line : List ℕ) (at : ℕ) (kind k : Kind) (t u : (Option (Cell × ℕ))) → TakenIs line at kind t → kind ≡ k → t ≡ u → TakenIs line at k u
took line at kind k t u h e f = rw (← e, ← f) h

-- a pair whose first part is known
paired : (t : Option (Cell × ℕ)) (x y : Cell) (behind : ℕ) → t ≡ Some (x, behind) → x ≡ y → t ≡ Some (y, behind)
paired t x y behind p q = rw (← q) p

-- ---- what was taken for a column, and that there is room for it
module _ (c : In-One) where
  took_one : let a = c.args in
      CellIs a.line.now c.loop-j.at (get_or (columns_of a.edition a.form) c.loop-j.j Absent) (Some (One c.in-One.v)) 1 c.in_ok-cell.behind
  took_one = took _ _ _ _ _ (Some (One _, _)) c.take_cell.ensures c.kind_at.ensures (paired _ _ _ _ c.in_ok-cell.was c.in-One.is)

  more-one : let a = c.args in c.loop-j.j < length (columns_of a.edition a.form)
  more-one = let n = c.loop-j.invariant.0 in omega arith

  room-one : c.loop-j.w + 1 ≤ 12
  room-one = fits-cell _ _ _ _ _ _ _ c.loop-j.invariant.1 more-one 1 took_one.wide

module _ (c : In-Two) where
  took-two : let a = c.args in
      CellIs a.line.now c.loop-j.at (get_or (columns_of a.edition a.form) c.loop-j.j Absent) (Some (Two c.in-Two.a c.in-Two.b)) 2 c.in_ok-cell.behind
  took-two = took _ _ _ _ _ (Some (Two _ _, _)) c.take_cell.ensures c.kind_at.ensures (paired _ _ _ _ c.in_ok-cell.was c.in-Two.is)

  more-two : let a = c.args in c.loop-j.j < length (columns_of a.edition a.form)
  more-two = let n = c.loop-j.invariant.0 in omega arith

  room-two : c.loop-j.w + 2 ≤ 12
  room-two = fits-cell _ _ _ _ _ _ _ c.loop-j.invariant.1 more-two 2 took-two.wide

pub loop-j-init : goal.loop-j-init
loop-j-init c = (c.column_count-count.ensures, start _ _ _ _ (ap (set blank 0) (rd-at _ c.form_number.type_inv ∙ c.form_number.ensures)))

pub offset_bounds-cells-w : goal.offset_bounds-cells-w
offset_bounds-cells-w c = omega (arith, room-one c)

pub bounds-cells-w : goal.bounds-cells-w
bounds-cells-w c = omega (arith, room-one c)

pub overflow_add-w : goal.overflow_add-w
overflow_add-w c = omega (arith, room-one c)

pub offset_bounds-cells-w-in-Two : goal.offset_bounds-cells-w-in-Two
offset_bounds-cells-w-in-Two c = omega (arith, room-two c)

pub bounds-cells-w-in-Two : goal.bounds-cells-w-in-Two
bounds-cells-w-in-Two c = omega (arith, room-two c)

pub overflow_add-cells : goal.overflow_add-cells
overflow_add-cells c = omega (arith, room-two c)

pub overflow_add-w-in-Two : goal.overflow_add-w-in-Two
overflow_add-w-in-Two c = omega (arith, room-two c)

pub loop-j-preserved : goal.loop-j-preserved
loop-j-preserved c =
    let a = c.args in
    let n = c.loop-j.invariant.0 in
    let more : c.loop-j.j < length (columns_of a.edition a.form) = omega arith in (
      n,
      elim c.match-cell.branch [
        | in-One w ↦ rw (w.cells-is, w.at-is, w.w-is, rd-at w.in-One.v (omega arith))
            (turn_one _ _ _ _ _ _ _ c.loop-j.invariant.1 more _ _
            (took a.line.now _ _ _ _ (Some (One _, _)) c.take_cell.ensures c.kind_at.ensures (paired _ _ _ _ c.in_ok-cell.was w.in-One.is)))
        | in-Two w ↦ rw (w.cells-is, w.at-is, w.w-is, rd-at w.in-Two.a (omega arith), rd-at w.in-Two.b (omega arith))
            (turn_two _ _ _ _ _ _ _ c.loop-j.invariant.1 more _ _ _
            (took a.line.now _ _ _ _ (Some (Two _ _, _)) c.take_cell.ensures c.kind_at.ensures (paired _ _ _ _ c.in_ok-cell.was w.in-Two.is)))
      ],
    )

pub bounds-cells-w-in-Two-2 : goal.bounds-cells-w-in-Two-2
bounds-cells-w-in-Two-2 c = omega (arith, room-two c)

pub returns-in_err-cell : goal.returns-in_err-cell
returns-in_err-cell c =
    let n = c.loop-j.invariant.0 in
    c.from_residual.ensures ∙ no_row _ _ (bad _ _ _ _ _ _ _ c.loop-j.invariant.1 (omega arith) (took c.args.line.now _ _ _ _ None c.take_cell.ensures c.kind_at.ensures c.in_err-cell.was))

pub returns-then-rest-line : goal.returns-then-rest-line
returns-then-rest-line c =
    let n = c.loop-j.invariant.0 in
    let f = field-at _ _ _ c.next_field-rest.ensures c.if-rest-line.true in
    no_row _ _ (long-end _ _ _ _ _ _ _ c.loop-j.invariant.1 (omega arith) _ _ f.field)

pub returns : goal.returns
returns c =
    let n = c.loop-j.invariant.0 in
    sym (good-end _ _ _ _ _ _ _ c.loop-j.invariant.1 (omega arith) (no_field _ _ _ c.next_field-rest.ensures c.if-rest-line.false))
