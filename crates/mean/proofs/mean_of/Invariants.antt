-- What the loop of `mean::mean_of` keeps: the sums have room, and are those of the days before its place, of which none is outside.
use Rattle.std.proofs.Common.{map}
use Rattle.mean.specs.Total.{Tells}
use Rattle.mean.proofs.Totals.{Kept, Summed}
use Rattle.mean.proofs.mean_of.Given as goal

abbrev pub invariant-loop-day : goal.invariant-loop-day
invariant-loop-day g l =
    Kept l.day-index l.sums
    × ((told : _) → Tells (goal.F-post g l.level) told → Summed (map told l.days) l.day-index l.sums)
