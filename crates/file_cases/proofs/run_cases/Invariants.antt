-- `run_cases`: no more cases differ than were run.
use Rattle.std.proofs.Common.{◌≤◌}
use Rattle.file_cases.proofs.run_cases.Given as goal

abbrev pub invariant-loop-case : goal.invariant-loop-case
invariant-loop-case g l = l.different ≤ l.case
