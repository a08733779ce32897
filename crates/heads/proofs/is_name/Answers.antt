-- `heads::is_name` meets its contract. Assumes nothing.
use Rattle.std.proofs.Common.{arith, rules, tests}
use Rattle.std.proofs.lemmas.Grind.{common_steps}
use Rattle.std.proofs.lemmas.Bool.Decides.{nat_tests}
use Rattle.std.proofs.lemmas.Iterator.{YieldsList-from_slice}
use Rattle.std.proofs.lemmas.Iterator.Search.{all_from_yields_List}
use Rattle.heads.specs.Heads.{is_name_byte, is_name}
use Rattle.heads.proofs.Names.{bytes_list}
use Rattle.heads.proofs.is_name.Goals as goal

pub returns-then-name-le-LONGEST_NAME : goal.returns-then-name-le-LONGEST_NAME
unfolding is_name
returns-then-name-le-LONGEST_NAME c =
    let e = all_from_yields_List is_name_byte _ _ c.all.result c.all.ensures.ran (YieldsList-from_slice c.args.name.now (cc)) (λ x b q k. search (rules, tests)) in
    let l = bytes_list c.args.name.now in
    grind (arith, common_steps, nat_tests)

pub returns-else-name-le-LONGEST_NAME : goal.returns-else-name-le-LONGEST_NAME
unfolding is_name
returns-else-name-le-LONGEST_NAME c = grind (arith, common_steps, nat_tests)
