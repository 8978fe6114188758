-- What the loop of `mixes::accumulate` keeps.
use mathlib.Core.Path.{◌≡◌}
use Prim.Native.Nat.{suc}
use Rattle.mixes.specs.Ways.{sum_below, cells}
use Rattle.mixes.proofs.Rows.{Upto}
use Rattle.mixes.proofs.accumulate.Given as goal

abbrev pub invariant-loop-number : goal.invariant-loop-number
invariant-loop-number l = Upto l.initial.row l.row (λ s. sum_below (cells l.initial.row) (suc s)) l.number-index × (l.sum ≡ sum_below (cells l.initial.row) l.number-index)
