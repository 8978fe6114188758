-- The numbers of the rows that a caller passes are f64 values: what owning an array of rows tells.
use mathlib.Core.List.{List, [], ◌∷◌}
use Prim.Native.Nat.{ℕ, zero, suc, ◌≤◌}
use native.Mathlib.Nat.{le_of_suc-le-suc}
use native.Mathlib.Omega.{arith}
use lib.Dec.{T}
use lib.ListN.{length}
use lib.Ieee.{binary64, fits}
use mir.Val.{Val}
use denote.Array.{Array, each}
use denote.Floats.{passes}
use denote.Laws.{Is}
use denote.Shadow.{shadow}
use Rattle.thrust.specs.Laws.{AreFloats}
use Rattle.thrust.specs.declared.Row.{Row}
use Rattle.thrust.specs.contracts.Row.{the_row}

floats_row : (row : Row) (u : Val) → Is the_row row (u ∷ []) → T (fits binary64 row.thrust) × T (fits binary64 row.level)
floats_row row u p = (passes _ p.1.1.0.1, passes _ p.1.1.1.0.1)

floats_each : (rows : List Row) (us : List Val) → shadow (each Row the_row.own_val rows us) → AreFloats rows (length rows)
floats_each [] us s k h = absurd (omega arith)
floats_each (row ∷ rows) [] s k h = absurd s
floats_each (row ∷ rows) (u ∷ us) s zero h = floats_row row u s.0
floats_each (row ∷ rows) (u ∷ us) s (suc k) h = floats_each rows us s.1 k (le_of_suc-le-suc h)

pub are_floats : (rows : List Row) (vs : List Val) → Is (Array the_row 32) rows vs → (count : ℕ) → count ≤ 32 → AreFloats rows count
are_floats rows vs p count h k l = floats_each rows p.0 p.1.1 k (omega (arith, p.1.0.1))

-- and that there are 32 of them
pub room : (rows : List Row) (vs : List Val) → Is (Array the_row 32) rows vs → (count : ℕ) → count ≤ 32 → count ≤ length rows
room rows vs p count h = omega (arith, p.1.0.1)
