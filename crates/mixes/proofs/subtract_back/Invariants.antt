-- What the loop of `mixes::subtract_back` keeps.
use Prim.Native.Nat.{◌-◌}
use Rattle.mixes.specs.Ways.{back}
use Rattle.mixes.proofs.Rows.{Downto}
use Rattle.mixes.proofs.subtract_back.Given as goal

abbrev pub invariant-loop-place : goal.invariant-loop-place
invariant-loop-place l = Downto l.initial.row l.row (λ s. back l.initial.row s l.first - back l.initial.row s l.end) l.place
