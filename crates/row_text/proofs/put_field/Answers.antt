-- `row_text::put_field` meets its contract: a decimal, nothing, or a whole number. Assumes nothing.
use Rattle.std.proofs.Common.{◌∙◌, arith, rules}
use Rattle.signed.proofs.Machine.{rd-at}
use Rattle.output.proofs.Over.{put-none}
use Rattle.row_text.proofs.Writing.{wrote-whole, wrote-decimal, wrote-absent, whole-other}
use Rattle.row_text.proofs.put_field.Goals as goal

pub returns-in-Decimal : goal.returns-in-Decimal
returns-in-Decimal c =
    wrote-decimal _ c.args.row.now c.args.w _ _ c.in-Decimal.is (rd-at c.number_at-first.result (search rules) ∙ c.number_at-first.ensures) (rd-at c.number_at.result (search rules) ∙ c.number_at.ensures) c.put_decimal.ensures

pub returns-in-Absent : goal.returns-in-Absent
returns-in-Absent c = wrote-absent _ c.args.row.now c.args.w c.in-Absent.is (put-none (omega arith) (omega arith))

pub returns-in_default : goal.returns-in_default
returns-in_default c =
    wrote-whole _ c.args.row.now c.args.w _ (whole-other _ c.in_default.not-Decimal c.in_default.not-Absent) (rd-at c.number_at-first.result (search rules) ∙ c.number_at-first.ensures) c.put_signed.ensures
