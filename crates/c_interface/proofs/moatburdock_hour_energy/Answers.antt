-- `c_interface::moatburdock_hour_energy` meets its contract: two limbs make each half.
use Rattle.c_interface.proofs.Written.{energy_by_limbs}
use Rattle.c_interface.proofs.moatburdock_hour_energy.Goals as goal

pub returns : goal.returns
returns c = rw (c.joined.ensures, c.joined-2.ensures, c.hour_energy-sum.ensures, c.decode.ensures) (energy_by_limbs _)
