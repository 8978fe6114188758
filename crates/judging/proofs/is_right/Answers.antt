-- `is_right`: the answers end before ','.
use Rattle.judging.proofs.Judging.{up_to_taken}
use Rattle.judging.proofs.is_right.Goals as goal

pub returns : goal.returns
returns c = rw (c.first_of.ensures.place, up_to_taken) at c.is_one_of.ensures
