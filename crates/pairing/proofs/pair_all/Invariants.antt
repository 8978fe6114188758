-- What the loop of `pairing::pair_all` keeps, and why it ends.
use Prim.Native.Nat.{◌+◌, ◌-◌}
use lib.ListN.{length}
use Rattle.pairing.specs.Pairing.{instants}
use Rattle.pairing.proofs.Turns.{Settled}
use Rattle.pairing.proofs.pair_all.Given as goal

abbrev pub invariant-loop-i : goal.invariant-loop-i
invariant-loop-i l = Settled (instants l.movements) (instants l.peaks) l.tolerance l.movement_marks l.peak_marks l.i l.j l.count

abbrev pub decreases-loop-i : goal.decreases-loop-i
decreases-loop-i l = (length l.movements - l.i) + (length l.peaks - l.j)
