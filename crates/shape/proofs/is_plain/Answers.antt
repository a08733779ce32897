-- `shape::is_plain` meets its contract. By cases on the edition. Assumes nothing.
use Rattle.std.proofs.Common.{ℕ, ◌≡◌, ◌∙◌, sym, Bool, true, false, cond, eqb}
use denote.Enum.Bare.{sameb}
use Rattle.shape.specs.contracts.Edition.{the_type}
use Rattle.shape.specs.declared.Edition.{Edition}
use Rattle.shape.specs.declared.Edition.TheVariants.{V13, V14}
use Rattle.shape.specs.Samples.{is_plain}
use Rattle.shape.proofs.is_plain.Goals as goal

by : (e : Edition) (b : Bool) (num count : ℕ) → b ≡ sameb the_type e V14 → cond b (eqb count num) false ≡ is_plain e num count
unfolding is_plain
by V13 b num count h = rw h
by V14 b num count h = rw h

pub returns-then-eq : goal.returns-then-eq
returns-then-eq c = by c.args.edition true c.args.num c.args.count (sym c.if-eq.true ∙ c.eq.ensures)

pub returns-else-eq : goal.returns-else-eq
returns-else-eq c = c.if-eq.false ∙ by c.args.edition false c.args.num c.args.count (sym c.if-eq.false ∙ c.eq.ensures)
