-- `section_text::used_with` meets its contract. Assumes nothing.
use Rattle.std.proofs.Common.{arith}
use Rattle.std.proofs.lemmas.Grind.{common_steps}
use Rattle.durations.specs.Durations.{use_count}
use Rattle.durations.proofs.Using.{uses-few}
use Rattle.durations.proofs.Listing.{uses-after}
use Rattle.section_text.proofs.used_with.Goals as goal

pub overflow_add-result : goal.overflow_add-result
overflow_add-result c = grind (arith, common_steps, uses-few c.args.uses.rows.now c.args.uses.n 0 c.args.k)

pub returns : goal.returns
unfolding use_count
returns c = grind (arith, common_steps, uses-after c.args.uses.rows.now c.args.uses.n c.args.k)
