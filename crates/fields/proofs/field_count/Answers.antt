-- `fields::field_count` meets its contract. Assumes nothing.
use Rattle.std.proofs.Common.{arith}
use mathlib.Core.Logic.{inl}
use Rattle.fields.proofs.Walking.{fields-few}
use Rattle.fields.proofs.field_count.Goals as goal

pub count-requires-clause-fits : goal.count-requires-clause-fits
count-requires-clause-fits c = inl (omega (arith, fields-few c.args.line.now))
