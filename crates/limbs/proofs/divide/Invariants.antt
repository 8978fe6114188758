-- What the loop of `limbs::divide` keeps.
use Rattle.limbs.proofs.Remainder.{Divided}
use Rattle.limbs.proofs.divide.Given as goal

abbrev pub invariant-loop-i : goal.invariant-loop-i
invariant-loop-i l = Divided l.d l.initial.a l.a l.remainder l.i
