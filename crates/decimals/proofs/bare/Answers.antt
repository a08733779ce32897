-- `decimals::bare` meets its contract: no digit, or what is left without trailing zeros. Assumes nothing.
use Rattle.std.proofs.Common.{ℕ, ◌≡◌, None}
use borrow.Author.Tests.{eq-eqb, ne_eqb}
use Rattle.decimals.specs.Decimal.{strip_from}
use Rattle.decimals.specs.Inside.{worth_of, bare_of}
use Rattle.decimals.specs.declared.Stripped.{Stripped}
use Rattle.decimals.proofs.bare.Goals as goal

none : (n v z f e : ℕ) → n ≡ 0 → None ≡ bare_of n v z f e
unfolding bare_of
none n v z f e h = rw (eq-eqb n 0 h)

some : (n v z f e : ℕ) (t : Stripped) → (n ≡ 0 → ⊥) → t ≡ strip_from v z → worth_of t.v t.zeros f e ≡ bare_of n v z f e
unfolding bare_of
some n v z f e t h p = rw (ne_eqb n 0 h, p)

pub returns-then-n-eq0 : goal.returns-then-n-eq0
returns-then-n-eq0 c = none _ _ _ _ _ c.if-n-eq0.true

pub returns : goal.returns
returns c = some _ _ _ _ _ _ c.if-n-eq0.false c.strip_from-v.ensures
