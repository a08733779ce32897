-- `shape_text::all_within` meets its contract. Assumes nothing.
use Rattle.std.proofs.Common.{◌^◌, ◌∙◌, nat_abs, rules, tests}
use Rattle.std.proofs.lemmas.Iterator.{YieldsList-from_slice}
use Rattle.std.proofs.lemmas.Iterator.Search.{all_from_yields_List}
use lib.Dec.{leb}
use Rattle.shape_text.proofs.Samples.{all_list}
use Rattle.shape_text.proofs.all_within.Goals as goal

pub returns : goal.returns
returns c =
    all_from_yields_List (λ z. leb (nat_abs z) (10 ^ 17)) _ _ _ c.all.ensures.ran (YieldsList-from_slice c.args.samples.now cc) (λ x b q k. search (rules, tests)) ∙ all_list c.args.samples.now
