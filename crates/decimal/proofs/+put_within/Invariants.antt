-- `put_within` puts one digit less each time.
use Rattle.decimal.proofs.+put_within.Given as goal

abbrev pub decreases-put_within : goal.decreases-put_within
decreases-put_within l = l.most
