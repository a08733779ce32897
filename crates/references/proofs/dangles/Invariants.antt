-- `references::dangles` meets its contract. The loop's invariant: the first number that misses is the first of those that are left. Assumes nothing.
use Rattle.std.proofs.Common.{◌-◌, ◌≡◌}
use Rattle.tables.specs.Tables.{first_such}
use Rattle.references.specs.References.{misses_at}
use Rattle.references.proofs.dangles.Given as goal

abbrev pub invariant-loop-c : goal.invariant-loop-c
invariant-loop-c l = let misses = misses_at l.edition l.rows.numbers.now l.rows.n l.k in first_such misses l.c (12 - l.c) ≡ first_such misses 0 12
