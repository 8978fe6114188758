-- `level::place_of` meets its contract: the range that holds the place halves with each turn, and the turns left fall by one.
use borrow.Author.Rules.{rules}
use lib.Dec.{lit≤}
use Rattle.level.proofs.Halving.{halving_starts, halving_up, halving_down}
use Rattle.level.proofs.place_of.Goals as goal

pub loop-low-init : goal.loop-low-init
loop-low-init c = halving_starts (lit≤ tt) c.requires.0 c.requires.1

pub loop-low-preserved-then-mantissa-digits : goal.loop-low-preserved-then-mantissa-digits
loop-low-preserved-then-mantissa-digits c = halving_up c.loop-low.invariant (search rules) (search rules) (search rules) (search rules)

pub loop-low-preserved : goal.loop-low-preserved
loop-low-preserved c = halving_down c.loop-low.invariant (search rules) (search rules) (search rules) (search rules)
