-- `text::has_control` meets its contract. Assumes nothing.
use Rattle.std.proofs.Common.{◌∙◌, rules, tests}
use Rattle.std.proofs.lemmas.Iterator.{YieldsList-from_slice}
use Rattle.std.proofs.lemmas.Iterator.Search.{any_from_yields_List}
use Rattle.text.specs.Marks.{is_control}
use Rattle.text.proofs.Marks.{any_list}
use Rattle.text.proofs.has_control.Goals as goal

pub returns : goal.returns
returns c =
    any_from_yields_List is_control _ _ _ c.any.ensures.ran (YieldsList-from_slice c.args.line.now cc) (λ x b q k. search (rules, tests)) ∙ any_list c.args.line.now
