-- `heads::flag_value` meets its contract: a size that an i64 holds is not cut. Assumes nothing.
use Rattle.std.proofs.Common.{◌∙◌, sym, pos, arith}
use Rattle.signed.proofs.Machine.{rd-is, sfits-abs}
use Rattle.heads.proofs.Names.{flag-none, flag-some, flag-small}
use Rattle.heads.proofs.flag_value.Goals as goal

pub returns-in_err-n : goal.returns-in_err-n
returns-in_err-n c = c.from_residual.ensures ∙ flag-none _ _ (sym c.read_integer.ensures ∙ c.in_err-n.was)

pub overflow_cast-result : goal.overflow_cast-result
overflow_cast-result c = sfits-abs (pos c.in_ok-n.n) (omega (arith, flag-small _ _ _ (sym c.read_integer.ensures ∙ c.in_ok-n.was)))

pub returns : goal.returns
returns c = flag-some _ _ _ (sym c.read_integer.ensures ∙ c.in_ok-n.was) (rd-is (sfits-abs (pos c.in_ok-n.n) (omega (arith, flag-small _ _ _ (sym c.read_integer.ensures ∙ c.in_ok-n.was)))))
