-- `limbs::low_u64` meets its contract: the number modulo 2 ^ 64 is that of the two lowest limbs.
use native.Mathlib.Omega.{arith}
use Rattle.limbs.proofs.Value.{value_low}
use Rattle.limbs.proofs.low_u64.Goals as goal

pub returns : goal.returns
returns c = omega (arith, value_low c.args.a.now (c.type_inv.a 0).fits (c.type_inv.a 1).fits)
