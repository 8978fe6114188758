-- What the loop of `day_words::put_each` keeps.
use Rattle.day_words.proofs.Putting.{PuttingEach}
use Rattle.day_words.proofs.put_each.Given as goal

abbrev pub invariant-loop-i : goal.invariant-loop-i
invariant-loop-i g l = PuttingEach g.T.Entry.to_words g.T.Entry.WIDTH l.entries l.initial.words l.at l.words l.i
