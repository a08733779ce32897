-- `heads::label_value` meets its contract. Assumes nothing.
use Rattle.std.proofs.Common.{◌≡◌, refl, arith}
use Rattle.std.proofs.lemmas.Grind.{common_steps}
use Rattle.std.proofs.lemmas.Bool.Decides.{nat_tests}
use denote.Enum.Bare.{sameb}
use Rattle.shape.specs.contracts.Edition.{the_type}
use Rattle.shape.specs.declared.Edition.{Edition}
use Rattle.shape.specs.declared.Edition.TheVariants.{V13, V14}
use Rattle.heads.specs.Heads.{is_v14, set_value, increment_value, label_value}
use Rattle.heads.proofs.label_value.Goals as goal

v14 : (e : Edition) → sameb the_type e V14 ≡ is_v14 e
unfolding is_v14
v14 V13 = refl
v14 V14 = refl

pub returns-in-13 : goal.returns-in-13
unfolding label_value set_value increment_value
returns-in-13 c = let e = v14 c.args.edition in grind (arith, common_steps, nat_tests)

pub returns-in-1-to-9 : goal.returns-in-1-to-9
unfolding label_value set_value increment_value
returns-in-1-to-9 c = let e = v14 c.args.edition in grind (arith, common_steps, nat_tests)

pub returns-in-10-to-12 : goal.returns-in-10-to-12
unfolding label_value set_value increment_value
returns-in-10-to-12 c = let e = v14 c.args.edition in grind (arith, common_steps, nat_tests)

pub returns-in_default : goal.returns-in_default
unfolding label_value set_value increment_value
returns-in_default c = let e = v14 c.args.edition in grind (arith, common_steps, nat_tests)

pub returns-in_default-2 : goal.returns-in_default-2
unfolding label_value set_value increment_value
returns-in_default-2 c = let e = v14 c.args.edition in grind (arith, common_steps, nat_tests)

pub returns-in_default-3 : goal.returns-in_default-3
unfolding label_value set_value increment_value
returns-in_default-3 c = let e = v14 c.args.edition in grind (arith, common_steps, nat_tests)

pub returns-in_default-4 : goal.returns-in_default-4
unfolding label_value set_value increment_value
returns-in_default-4 c = let e = v14 c.args.edition in grind (arith, common_steps, nat_tests)

pub returns-in_default-5 : goal.returns-in_default-5
unfolding label_value set_value increment_value
returns-in_default-5 c = let e = v14 c.args.edition in grind (arith, common_steps, nat_tests)
