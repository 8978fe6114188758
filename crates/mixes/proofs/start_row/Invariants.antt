-- What the loop of `mixes::start_row` keeps.
use Rattle.mixes.specs.Ways.{no_class}
use Rattle.mixes.proofs.Rows.{Upto}
use Rattle.mixes.proofs.start_row.Given as goal

abbrev pub invariant-loop-sum : goal.invariant-loop-sum
invariant-loop-sum l = Upto l.initial.row l.row no_class l.sum
