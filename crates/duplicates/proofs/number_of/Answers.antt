-- `duplicates::number_of` meets its contract. Assumes nothing.
use Rattle.duplicates.specs.Inside.{number_of}
use Rattle.duplicates.proofs.number_of.Goals as goal

pub returns : goal.returns
unfolding number_of
returns c = rw (c.mix.ensures, c.mix_all.ensures, c.sort_number.ensures)
