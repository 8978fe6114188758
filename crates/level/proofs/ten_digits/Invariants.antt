-- What the loop of `level::ten_digits` keeps, and why it ends.
use Prim.Native.Nat.{◌+◌, ◌-◌}
use Rattle.level.proofs.Digits.{Shortening}
use Rattle.level.proofs.ten_digits.Given as goal

abbrev pub invariant-loop-digits : goal.invariant-loop-digits
invariant-loop-digits l = Shortening l.initial.digits l.initial.omitted l.digits l.omitted

abbrev pub decreases-loop-digits : goal.decreases-loop-digits
decreases-loop-digits l = l.initial.omitted + 10 - l.omitted
