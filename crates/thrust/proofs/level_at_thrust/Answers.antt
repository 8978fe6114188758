-- `thrust::level_at_thrust` meets its contract: more than 32 rows are not fit, and else the first rows alone give the answer.
use mathlib.Core.Path.{◌≡◌, ◌∙◌}
use lib.Ieee.{Float}
use Rattle.quantity.specs.Rules.{Outcome}
use Rattle.thrust.specs.Rows.{level_at_thrust}
use Rattle.thrust.proofs.Answering.{unfit, too_many}
use Rattle.thrust.proofs.Given.{are_floats, room}
use Rattle.thrust.proofs.Promised.{Promised, promised}
use Rattle.thrust.proofs.Same.{by_first_rows}
use Rattle.thrust.proofs.level_at_thrust.Goals as goal
use Rattle.thrust.proofs.level_at_thrust.Goals.{Start}

-- what the contract promises of an answer that is the one of the definition
answered : (c : Start) {answer : Outcome Float} → answer ≡ level_at_thrust c.args.rows c.args.count c.args.thrust → Promised c.args.rows c.args.count c.args.thrust answer
answered c = promised _ _ _ (are_floats c.args.rows _ c.well_formed.0 c.args.count)

pub returns-then-count-gt-MOST_ROWS : goal.returns-then-count-gt-MOST_ROWS
returns-then-count-gt-MOST_ROWS c =
    let at = goal.at.returns-then-count-gt-MOST_ROWS c in
    let p = answered at.Start (unfit _ _ _ (too_many c.args.rows c.args.count c.if-count-gt-MOST_ROWS.true)) in
    record { result_value = p.0; exact = p.1.0; number = p.1.1 }

pub returns : goal.returns
returns c =
    let at = goal.at.returns c in
    let p = answered at.Start (c.level_by.ensures ∙ by_first_rows c.args.rows c.args.count c.args.thrust (room c.args.rows _ at.Start.well_formed.0 c.args.count c.if-count-gt-MOST_ROWS.false)) in
    record { result_value = p.0; exact = p.1.0; number = p.1.1 }
