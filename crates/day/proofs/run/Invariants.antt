-- `run`: the buffer keeps its length, and each turn brings the reader nearer to its end; what was printed so far belongs to the file.
use Rattle.std.proofs.Common.{◌≡◌, ◌<◌, length}
use Rattle.std.specs.Io.KnownBytes.{IsAtEnd}
use Rattle.steps.specs.Run.{steps_left}
use Rattle.day.specs.Turn.{unused}
use Rattle.day.proofs.Printing.{SoFar}
use Rattle.day.proofs.run.Given as goal

abbrev pub invariant-loop-turn : goal.invariant-loop-turn
invariant-loop-turn g l = record {
  whole : length l.held ≡ length l.initial.held;
  ended : l.turn.end < length l.held → IsAtEnd (g.R.Read.remaining l.input);
  so_far : SoFar (g.R.Read.remaining l.initial.input) l.turn.reader (unused l.turn l.held) (g.R.Read.remaining l.input) (g.W.Write.contents l.initial.out) (g.W.Write.contents l.out);
}

abbrev pub decreases-loop-turn : goal.decreases-loop-turn
decreases-loop-turn g l = steps_left l.turn.reader
