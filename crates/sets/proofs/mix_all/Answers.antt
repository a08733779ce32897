-- `sets::mix_all` meets its contract. Assumes nothing.
use Rattle.std.proofs.Common.{◌∙◌, rules}
use Rattle.std.proofs.lemmas.Iterator.{YieldsList-from_slice}
use Rattle.std.proofs.lemmas.Iterator.Consumers.{fold_from_yields_List}
use Rattle.sets.specs.Sets.{mixed}
use Rattle.sets.proofs.Passing.{mixed-fold}
use Rattle.sets.proofs.mix_all.Goals as goal

pub returns : goal.returns
returns c = fold_from_yields_List _ mixed c.args.start c.fold.result c.fold.ensures.ran (YieldsList-from_slice c.args.bytes.now cc) (λ a x b q k. search rules) ∙ mixed-fold c.args.start c.args.bytes.now
