-- `grammar::listed_of` meets its contract. Assumes nothing.
use native.Mathlib.Omega.{arith}
use mathlib.Core.Path.{sym, ap}
use borrow.Author.Tests.{ne_eqb}
use Rattle.grammar.specs.Steps.{listed_of}
use Rattle.grammar.proofs.listed_of.Goals as goal

pub returns-in-1 : goal.returns-in-1
unfolding listed_of
returns-in-1 c = sym (ap listed_of c.in-1.is)

pub returns-in-2 : goal.returns-in-2
unfolding listed_of
returns-in-2 c = sym (ap listed_of c.in-2.is)

pub returns-in-3 : goal.returns-in-3
unfolding listed_of
returns-in-3 c = sym (ap listed_of c.in-3.is)

pub returns-in_default : goal.returns-in_default
unfolding listed_of
returns-in_default c = rw (ne_eqb c.args.code 1 (omega arith), ne_eqb c.args.code 2 (omega arith), ne_eqb c.args.code 3 (omega arith))
