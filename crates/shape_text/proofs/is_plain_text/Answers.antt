-- `shape_text::is_plain_text` meets its contract, by the edition. Assumes nothing.
use Rattle.std.proofs.Common.{ℕ, ◌≡◌, ◌∙◌, sym, refl, Bool, true, false, cond}
use denote.Enum.Bare.{sameb}
use lib.Dec.{leb}
use Rattle.shape.specs.contracts.Edition.{the_type}
use Rattle.shape.specs.declared.Edition.{Edition}
use Rattle.shape.specs.declared.Edition.TheVariants.{V13, V14}
use Rattle.shape_text.specs.Written.{is_plain_text}
use Rattle.shape_text.proofs.Outcome.{plain-13, plain-14}
use Rattle.shape_text.proofs.is_plain_text.Goals as goal

by : (e : Edition) (b : Bool) (packed plain : ℕ) → b ≡ sameb the_type e V14 → cond b (leb plain packed) false ≡ is_plain_text e packed plain
by V13 b packed plain h = rw h (plain-13 packed plain refl)
by V14 b packed plain h = rw h (plain-14 packed plain refl)

pub returns-then-eq : goal.returns-then-eq
returns-then-eq c = by c.args.edition true c.args.packed c.args.plain (sym c.if-eq.true ∙ c.eq.ensures)

pub returns-else-eq : goal.returns-else-eq
returns-else-eq c = c.if-eq.false ∙ by c.args.edition false c.args.packed c.args.plain (sym c.if-eq.false ∙ c.eq.ensures)
