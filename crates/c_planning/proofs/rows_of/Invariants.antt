-- What the loop of `c_planning::rows_of` keeps: each turn puts one row.
use Rattle.c_planning.proofs.Filling.{Filled}
use Rattle.c_planning.proofs.rows_of.Given as goal

abbrev pub invariant-loop-i : goal.invariant-loop-i
invariant-loop-i l = Filled l.thrusts l.levels l.rows l.i
