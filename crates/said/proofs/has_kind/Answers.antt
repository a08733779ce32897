-- `said::has_kind` meets its contract: the test is asked of each row from 0 on. Assumes nothing.
use Rattle.std.proofs.Common.{arith, rules, ◌∙◌}
use Rattle.std.proofs.lemmas.Iterator.{YieldsList-from_range}
use Rattle.std.proofs.lemmas.Iterator.Search.{any_from_yields_List}
use Rattle.sayable.specs.Sayable.{is_kind}
use Rattle.sayable.proofs.Saying.{any-such}
use Rattle.said.specs.Said.{has_kind}
use Rattle.said.proofs.has_kind.Goals as goal

pub returns : goal.returns
unfolding has_kind
returns c =
    let a = c.args in
    any_from_yields_List (λ i. is_kind a.rows.now i a.kind) _ _ _ c.any.ensures.ran (YieldsList-from_range 0 a.n a.n (search rules) (omega arith)) (λ x b q k. search rules)
    ∙ any-such (λ i. is_kind a.rows.now i a.kind) a.n
