-- What the loop of `day_words::read_each` keeps.
use Rattle.std.proofs.Common.{length}
use Rattle.runs.proofs.Filling.{Filling}
use Rattle.day_words.specs.Words.{read_each}
use Rattle.day_words.proofs.read_each.Given as goal

abbrev pub invariant-loop-i : goal.invariant-loop-i
invariant-loop-i g l = Filling (read_each (g.T.Entry.from_words l.words) g.T.Entry.WIDTH l.at (length l.initial.entries)) l.entries l.i
