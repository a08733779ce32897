-- `print::put_integer` meets its contract: the last digit is laid behind those of a tenth of the number, which is the measure. Assumes nothing.
use Rattle.print.proofs.+put_integer.Given as goal

abbrev pub decreases-put_integer : goal.decreases-put_integer
decreases-put_integer l = l.n
