-- `run_lines`: the buffer stays as long as it is, and what is held of it ends inside.
use Prim.Native.Nat.{◌≤◌}
use Rattle.std.proofs.Common.{◌≡◌, length}
use Rattle.script.proofs.Script.run_lines.Given as goal

abbrev pub invariant-loop : goal.invariant-loop
invariant-loop g l = (length l.held ≡ length l.initial.held) × (l.at ≤ l.end) × (l.end ≤ length l.held)
