-- `again::note_rows` meets its contract. The loop's invariant: what is noted of the rows that are passed (`Noted`). Assumes nothing.
use Rattle.again.specs.Inside.{id_at, Noted}
use Rattle.tables.specs.Tables.{class_at}
use lib.ListN.{length}
use mathlib.Core.Path.{◌≡◌}
use Prim.Native.Nat.{◌≤◌}
use Rattle.again.proofs.note_rows.Given as goal

abbrev pub invariant-loop-k : goal.invariant-loop-k
invariant-loop-k l = (l.k ≤ l.n) × ((length l.most ≡ length l.initial.most) × Noted (class_at l.rows) (id_at l.rows) l.most l.k)
