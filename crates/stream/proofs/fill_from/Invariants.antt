-- `fill_from`: the bytes before the place stay, and those behind it are what was read.
use Rattle.std.proofs.Common.{◌≡◌, ◌-◌, ◌≤◌, length, take, drop}
use Rattle.std.specs.Io.KnownBytes.{Consumes}
use Rattle.stream.proofs.fill_from.Given as goal

abbrev pub invariant-loop-at : goal.invariant-loop-at
invariant-loop-at g l = record {
  start : l.from ≤ l.at;
  inside : l.at ≤ length l.held;
  whole : length l.held ≡ length l.initial.held;
  kept : take l.from l.held ≡ take l.from l.initial.held;
  bytes : Consumes (g.R.Read.remaining l.initial.input) (g.R.Read.remaining l.input) (drop l.from (take l.at l.held));
}

abbrev pub decreases-loop-at : goal.decreases-loop-at
decreases-loop-at g l = length l.initial.held - l.at
