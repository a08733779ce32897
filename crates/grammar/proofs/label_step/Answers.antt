-- `grammar::label_step` meets its contract. Assumes nothing.
use mathlib.Core.Path.{◌∙◌, ◌≡◌, refl}
use Rattle.grammar.proofs.Answers.{label-gave, label-bad}
use Prim.Native.Nat.{◌<◌, ◌^◌}
use lib.Signed.{mag}
use borrow.Author.Rules.{rules}
use Rattle.signed.proofs.Machine.{rd-at}
use mir.Val.{to_z, bool_byte}
use mir.Syntax.{w64}
use lib.IntN.{pos}
use mathlib.Core.Bool.{Bool, true, false, cond}
use Rattle.grammar.proofs.label_step.Goals as goal

-- whether a label is incremented, as a number
flag : (b : Bool) → to_z w64 (bool_byte b) ≡ pos (cond b 1 0)
flag true = refl
flag false = refl

pub returns : goal.returns
returns c =
    let m : mag c.in-Some.label.value < 2 ^ 63 = search rules in
    c.gave_four.ensures
    ∙ label-gave _ _ _ _ _ c.read_label.ensures _ _ _ c.in-Some.is _ _ _ _ (rd-at _ c.with_sign-number.type_inv ∙ c.with_sign-number.ensures) (flag c.args.increment) (rd-at _ m)
    (rd-at _ c.with_sign-which.type_inv ∙ c.with_sign-which.ensures)

pub returns-in_default : goal.returns-in_default
returns-in_default c = c.refused.ensures ∙ label-bad _ _ _ _ _ c.read_label.ensures c.in_default.is
