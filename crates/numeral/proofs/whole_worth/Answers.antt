-- `numeral::whole_worth` meets its contract: a negative one has none; else up or down by a power of ten. Assumes nothing.
use Rattle.std.proofs.Common.{◌∙◌, ◌≡◌, sym, ap, rules, pos, ◌+ℤ◌, nat_abs}
use Rattle.signed.proofs.Machine.{rd-at}
use Rattle.numeral.specs.Inside.{shift_of}
use Rattle.numeral.proofs.Outcomes.{below-at, size-at, whole-negative, whole-up, whole-down}
use Rattle.numeral.proofs.whole_worth.Goals as goal

pub returns-then-d-lt0 : goal.returns-then-d-lt0
returns-then-d-lt0 c = whole-negative _ _ _ _ (sym (below-at c.args.d.mantissa (search rules)) ∙ c.if-d-lt0.true)

pub returns-in-Up : goal.returns-in-Up
returns-in-Up c =
    let d = c.args.d in
    let shifted : c.shift_by.result ≡ shift_of (d.exponent +ℤ pos c.args.shift) = c.shift_by.ensures ∙ ap (λ e. shift_of (e +ℤ pos c.args.shift)) (rd-at d.exponent (search rules)) in
    let sized : c.unsigned_abs-v.result ≡ nat_abs d.mantissa = c.unsigned_abs-v.ensures.value ∙ size-at d.mantissa (search rules) in
    c.scale_up.ensures ∙ rw (c.from.ensures, c.from-in-Up.ensures) (whole-up d _ _ _ (sym (below-at d.mantissa (search rules)) ∙ c.if-d-lt0.false) _ sized _ (sym shifted ∙ c.in-Up.is))

pub returns-in-Down : goal.returns-in-Down
returns-in-Down c =
    let d = c.args.d in
    let shifted : c.shift_by.result ≡ shift_of (d.exponent +ℤ pos c.args.shift) = c.shift_by.ensures ∙ ap (λ e. shift_of (e +ℤ pos c.args.shift)) (rd-at d.exponent (search rules)) in
    let sized : c.unsigned_abs-v.result ≡ nat_abs d.mantissa = c.unsigned_abs-v.ensures.value ∙ size-at d.mantissa (search rules) in
    c.scale_down.ensures ∙ rw (c.from-in-Down.ensures, c.from-in-Down-2.ensures) (whole-down d _ _ _ (sym (below-at d.mantissa (search rules)) ∙ c.if-d-lt0.false) _ sized _ (sym shifted ∙ c.in-Down.is))
