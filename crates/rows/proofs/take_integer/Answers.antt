-- `rows::take_integer` meets its contract: the digits of the next word, if there is one, and their range. Assumes nothing.
use mathlib.Core.Path.{refl, sym, ◌∙◌}
use Rattle.signed.proofs.Machine.{rd-at}
use Rattle.rows.proofs.Rows.{row-short}
use Rattle.rows.proofs.Digits.{none-there, word-there, digits-present, took-bad, took-low, took-high, took_one}
use Rattle.rows.proofs.take_integer.Goals as goal

pub returns-then-line-start : goal.returns-then-line-start
returns-then-line-start c = λ ks. rw (none-there _ _ _ c.skip-start.ensures c.if-line-start.true) (row-short _ ks (digits-present c.args.kind c.requires))

pub returns-then-v-least_of : goal.returns-then-v-least_of
returns-then-v-least_of c =
    took-low (word-there _ _ _ c.skip-start.ensures c.if-line-start.false) _ c.requires c.least_of.ensures refl (sym c.gather.ensures ∙ c.in_ok-v.was) c.if-v-least_of.true

pub returns-then-most_of-v : goal.returns-then-most_of-v
returns-then-most_of-v c =
    took-high (word-there _ _ _ c.skip-start.ensures c.if-line-start.false) _ c.requires refl c.most_of.ensures (sym c.gather.ensures ∙ c.in_ok-v.was) c.if-most_of-v.true

pub returns : goal.returns
returns c =
    let l = c.least_of.ensures in
    let h = c.most_of.ensures in
    took_one (word-there _ _ _ c.skip-start.ensures c.if-line-start.false) _ c.requires l h (sym c.gather.ensures ∙ c.in_ok-v.was) _ c.if-v-least_of.false c.if-most_of-v.false (rd-at _ c.with_sign.type_inv ∙ c.with_sign.ensures)

pub returns-in_err-v : goal.returns-in_err-v
returns-in_err-v c =
    rw c.from_residual.ensures (took-bad (word-there _ _ _ c.skip-start.ensures c.if-line-start.false) _ c.requires refl refl (sym c.gather.ensures ∙ c.in_err-v.was))
