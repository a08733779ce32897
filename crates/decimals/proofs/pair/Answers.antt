-- `decimals::pair` meets its contract: zero, the two limits, and the pair. Assumes nothing.
use Rattle.std.proofs.Common.{◌∙◌, arith}
use Rattle.signed.proofs.Machine.{rd-at}
use Rattle.decimals.proofs.Pairs.{pair-zero, pair-low, pair-high, pair-value}
use Rattle.numeral.proofs.Outcomes.{held-size}
use Rattle.decimals.proofs.pair.Goals.{then-s-lt101-via-then-s-lt101, then-s-lt101-via-else-s-lt101+then-s-gt299}
use Rattle.decimals.proofs.pair.Goals as goal

pub returns-then-v-eq0 : goal.returns-then-v-eq0
returns-then-v-eq0 c = pair-zero _ _ _ c.if-v-eq0.true

pub returns-then-s-lt101 : goal.returns-then-s-lt101
returns-then-s-lt101 c =
    elim c.then-s-lt101.branch [
      | then-s-lt101-via-then-s-lt101 w ↦ pair-low _ _ _ c.if-v-eq0.false w.if-s-lt101.true
      | then-s-lt101-via-else-s-lt101+then-s-gt299 w ↦ pair-high _ _ _ c.if-v-eq0.false w.if-s-lt101.false w.if-s-gt299.true
    ]

pub returns : goal.returns
returns c =
    pair-value _ _ _ c.if-v-eq0.false _ _ c.if-s-lt101.false c.if-s-gt299.false
    (rd-at _ c.with_sign.type_inv ∙ c.with_sign.ensures ∙ held-size _ _ (omega (arith, c.requires)))
    (rd-at _ c.from_200.type_inv ∙ c.from_200.ensures)
