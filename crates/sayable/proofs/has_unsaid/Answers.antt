-- `sayable::has_unsaid` meets its contract: the test is asked of each row from 0 on. Assumes nothing.
use Rattle.std.proofs.Common.{arith, rules, ◌∙◌}
use Rattle.std.proofs.lemmas.Iterator.{YieldsList-from_range}
use Rattle.std.proofs.lemmas.Iterator.Search.{any_from_yields_List}
use Rattle.sayable.specs.Sayable.{any_unsaid, unsaid}
use Rattle.sayable.proofs.Saying.{any-such}
use Rattle.sayable.proofs.has_unsaid.Goals as goal

pub returns : goal.returns
unfolding any_unsaid
returns c =
    let a = c.args in
    let holds = unsaid a.target a.rasters a.rows.now in
    any_from_yields_List holds _ _ _ c.any.ensures.ran (YieldsList-from_range 0 a.n a.n (search rules) (omega arith)) (λ x b q k. search rules) ∙ any-such holds a.n
