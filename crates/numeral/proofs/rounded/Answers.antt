-- `numeral::rounded` meets its contract: up by a power of ten exactly, down to the nearest. Assumes nothing.
use Rattle.std.proofs.Common.{◌≡◌, ◌∙◌, sym, ap, rules, arith, pos, ◌+ℤ◌, nat_abs}
use Rattle.signed.proofs.Machine.{rd-at, size-most}
use Rattle.numeral.specs.Integer.{in_range, signed_as}
use Rattle.numeral.specs.Inside.{shift_of}
use Rattle.numeral.proofs.Outcomes.{below-at, size-at, held-range, down-some, round_up, round-down}
use Rattle.numeral.proofs.rounded.Goals.{in-Up, in-Down}
use Rattle.numeral.proofs.rounded.Goals as goal

pub round_down-requires : goal.round_down-requires
round_down-requires c =
    let d = c.args.d in
    let shifted : c.shift_by.result ≡ shift_of (d.exponent +ℤ pos 12) = c.shift_by.ensures ∙ ap (λ e. shift_of (e +ℤ pos 12)) (rd-at d.exponent (search rules)) in
    let sized : c.unsigned_abs-v.result ≡ nat_abs d.mantissa = c.unsigned_abs-v.ensures.value ∙ size-at d.mantissa (search rules) in
    (down-some _ _ (sym shifted ∙ c.in-Down.is), omega (arith, sized, size-most d.mantissa (search rules)))

pub signed_as-requires : goal.signed_as-requires
signed_as-requires c =
    elim c.match-shift_by.branch [
      | in-Up w ↦ held-range 0 200000000000000000 _ _ (omega arith) (w.size-is ∙ w.scale_up-size.ensures)
      | in-Down w ↦ held-range 0 200000000000000000 _ _ (omega arith) (w.size-is ∙ w.in_range-size.ensures)
    ]

pub returns : goal.returns
returns c =
    let d = c.args.d in
    let below = below-at d.mantissa (search rules) in
    let shifted : c.shift_by.result ≡ shift_of (d.exponent +ℤ pos 12) = c.shift_by.ensures ∙ ap (λ e. shift_of (e +ℤ pos 12)) (rd-at d.exponent (search rules)) in
    let sized : c.unsigned_abs-v.result ≡ nat_abs d.mantissa = c.unsigned_abs-v.ensures.value ∙ size-at d.mantissa (search rules) in
    c.signed_as.ensures ∙ (elim c.match-shift_by.branch [
      | in-Up w ↦ ap (signed_as _) (w.size-is ∙ w.scale_up-size.ensures) ∙ round_up _ _ below _ sized _ (sym shifted ∙ w.in-Up.is)
      | in-Down w ↦ ap (signed_as _) (w.size-is ∙ w.in_range-size.ensures ∙ ap (in_range 0 200000000000000000) w.round_down.ensures) ∙ round-down _ _ below _ sized _ (sym shifted ∙ w.in-Down.is)
    ])
