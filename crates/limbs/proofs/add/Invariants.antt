-- What the loop of `limbs::add` keeps.
use Prim.Native.Nat.{◌+◌}
use lib.ListN.{length, take}
use Rattle.limbs.specs.Value.{value}
use Rattle.limbs.proofs.Carry.{Carried}
use Rattle.limbs.proofs.add.Given as goal

abbrev pub invariant-loop-i : goal.invariant-loop-i
invariant-loop-i l = Carried (λ n. value (take n l.initial.a) + value (take n l.b)) l.initial.a l.a l.carry l.i
