-- `events::within_one` meets its contract. Assumes nothing.
use Rattle.std.proofs.Common.{ℤ, leb, nat_abs, rules, tests, ◌∙◌}
use Rattle.std.proofs.lemmas.Iterator.{YieldsList-from_slice}
use Rattle.std.proofs.lemmas.Iterator.Search.{all_from_yields_List}
use Rattle.events.proofs.Fitting.{unit-all}
use Rattle.events.proofs.within_one.Goals as goal

pub returns : goal.returns
returns c = all_from_yields_List (λ (z : ℤ). leb (nat_abs z) 1000000000000) _ _ _ c.all.ensures.ran (YieldsList-from_slice c.args.samples.now cc) (λ x b q k. search (rules, tests)) ∙ unit-all _
