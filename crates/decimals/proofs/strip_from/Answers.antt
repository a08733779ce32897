-- `decimals::strip_from` meets its contract. Assumes nothing.
use Rattle.std.proofs.Common.{ℕ, ◌+◌, ◌/◌, ◌%◌, ◌≡◌, ◌∙◌, sym, arith}
use Rattle.decimals.specs.Decimal.{strip_from}
use Rattle.decimals.proofs.Zeros.{strip-more, strip-done, strip-nothing}
use Rattle.decimals.proofs.strip_from.Invariants.{Stripping}
use Rattle.decimals.proofs.strip_from.Goals as goal

nothing : (v z : ℕ) → v ≡ 0 → record { v = v; zeros = z } ≡ strip_from v z
nothing v z e = rw (e, strip-nothing)

turn : (v z w k : ℕ) → Stripping v z w k → w % 10 ≡ 0 → Stripping v z (w / 10) (k + 1)
turn v z w k s e = record { some = omega arith; fits = omega arith; same = sym (strip-more w k s.some e) ∙ s.same }

pub returns-then-v-eq0 : goal.returns-then-v-eq0
returns-then-v-eq0 c = nothing _ _ c.if-v-eq0.true

pub loop-w-preserved : goal.loop-w-preserved
loop-w-preserved c = turn _ _ _ _ c.loop-w.invariant c.loop-w-test.true

pub returns : goal.returns
returns c = sym (strip-done _ _ c.loop-w-test.false) ∙ c.loop-w.invariant.same
