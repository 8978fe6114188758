-- `thrust::is_in_range` meets its contract: the code's literals are the f64 of the whole numbers.
use mathlib.Core.Path.{sym, ◌∙◌}
use lib.Ieee.{of_bits, of_int, round}
use Rattle.thrust.proofs.is_in_range.Goals as goal

pub returns-then-is_within : goal.returns-then-is_within
unfolding of_int of_bits round
returns-then-is_within c = rw (sym c.is_within.ensures ∙ c.if-is_within.true) c.is_within-then-is_within.ensures

pub returns-else-is_within : goal.returns-else-is_within
unfolding of_int of_bits round
returns-else-is_within c = c.if-is_within.false ∙ rw (sym c.is_within.ensures ∙ c.if-is_within.false)
