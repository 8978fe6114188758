-- What the loop of `level::place_of` keeps, and why it ends.
use Rattle.level.proofs.Halving.{Halving}
use Rattle.level.proofs.place_of.Given as goal

abbrev pub invariant-loop-low : goal.invariant-loop-low
invariant-loop-low l = Halving l.digits l.low l.high l.turns_left

abbrev pub decreases-loop-low : goal.decreases-loop-low
decreases-loop-low l = l.turns_left
