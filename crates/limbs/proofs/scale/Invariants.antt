-- What the loop of `limbs::scale` keeps.
use Prim.Native.Nat.{◌*◌}
use lib.ListN.{length, take}
use Rattle.limbs.specs.Value.{value}
use Rattle.limbs.proofs.Carry.{Carried}
use Rattle.limbs.proofs.scale.Given as goal

abbrev pub invariant-loop-limb : goal.invariant-loop-limb
invariant-loop-limb l = Carried (λ n. value (take n l.initial.a) * l.k) l.initial.a l.a l.carry l.limb-index
