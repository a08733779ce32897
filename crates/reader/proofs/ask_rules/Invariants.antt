-- `reader::ask_rules` meets its contract. The loop: the rules that are left answer what all of them answer (`RulesLeft`). Assumes nothing.
use Prim.Native.Nat.{◌-◌}
use Rattle.file.specs.Rows.{rows_of}
use Rattle.rules.specs.Rules.{first_broken}
use Rattle.answers.specs.Outcome.{Accepted}
use Rattle.reader.proofs.Judging.{RulesLeft}
use Rattle.reader.proofs.ask_rules.Given as goal

abbrev pub invariant-loop-i : goal.invariant-loop-i
invariant-loop-i l = let n = l.rows.n in RulesLeft (λ rule. first_broken rule l.edition l.rasters l.rows.numbers.now n l.samples) n (rows_of l.file) (Accepted n l.count) l.i
