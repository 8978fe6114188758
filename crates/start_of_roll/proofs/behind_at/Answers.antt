-- `start_of_roll::behind_at` meets its contract: the operations stand in the order of the definition, and each literal has the bits of the f64 nearest to its decimal.
use mathlib.Core.Path.{refl}
use lib.Ieee.{of_bits, round}
use Rattle.floats.specs.Arithmetic.{decimal}
use Rattle.start_of_roll.specs.Correction.{behind_at}
use Rattle.start_of_roll.proofs.behind_at.Goals as goal

pub returns : goal.returns
unfolding behind_at decimal of_bits round
returns c = refl
