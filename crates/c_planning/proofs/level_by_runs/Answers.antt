-- `c_planning::level_by_runs` meets its contract: by the lengths, and then by the rows of the array.
use Rattle.c_planning.proofs.Runs.{beyond, by_array}
use Rattle.c_planning.proofs.level_by_runs.Goals as goal

pub returns-then-thrusts-gt-MOST_ROWS : goal.returns-then-thrusts-gt-MOST_ROWS
returns-then-thrusts-gt-MOST_ROWS c =
    let a = beyond c.args.thrusts.now c.args.levels.now c.args.thrust c.if-levels-thrusts.false c.if-thrusts-gt-MOST_ROWS.true in
    record { result_value = a.0; exact = a.1.0; number = a.1.1 }

pub returns : goal.returns
returns c =
    let e = c.level_at_thrust.ensures in
    let a = by_array c.args.thrusts.now c.args.levels.now c.args.thrust c.rows_of.result c.if-levels-thrusts.false c.rows_of.ensures (e.result_value, (e.exact, e.number)) in
    record { result_value = a.0; exact = a.1.0; number = a.1.1 }
