-- `c_planning::rows_of` meets its contract: each turn puts one row.
use Rattle.c_planning.proofs.Filling.{filled_more}
use Rattle.c_planning.proofs.rows_of.Goals as goal

pub loop-i-preserved : goal.loop-i-preserved
loop-i-preserved c = filled_more _ _ _ _ c.requires.0 c.requires.1 c.loop-i-test.true c.loop-i.invariant
