-- `numeral::power_of_ten` meets its contract: it stands in the table. Assumes nothing.
use Rattle.numeral.proofs.Scaling.{power-at}
use Rattle.numeral.proofs.power_of_ten.Goals as goal

pub returns : goal.returns
returns c = power-at c.args.k c.requires
