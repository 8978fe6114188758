-- What the loop of `level::leading_quotient` keeps, and why it ends.
use Prim.Native.Nat.{◌-◌, ◌/◌}
use Rattle.level.proofs.Quotient.{Reducing}
use Rattle.level.proofs.leading_quotient.Given as goal

abbrev pub invariant-loop-quotient : goal.invariant-loop-quotient
invariant-loop-quotient l = Reducing l.initial.quotient l.quotient l.omitted

abbrev pub decreases-loop-quotient : goal.decreases-loop-quotient
decreases-loop-quotient l = (47 - l.omitted) / 9
