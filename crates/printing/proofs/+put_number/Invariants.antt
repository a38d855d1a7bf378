-- `printing::put_number`: the measure is the number itself.
use Rattle.printing.proofs.+put_number.Given as goal

abbrev pub decreases-put_number : goal.decreases-put_number
decreases-put_number l = l.v
