-- Beside what document 02, W-206, asks: the level that is given lies within 10^-12 dB of the exact value of B.3, where the two thrusts are 2^-1000 kN apart or
-- more, and it is always finite. All numbers here are whole: sizes are counted in units of the smallest f64 (`float_units`).
use Rattle.std.specs.Prelude.{◌≡◌, List, ℕ, suc, ◌+◌, ◌-◌, ◌*◌, ◌^◌, ◌≤◌, ◌<◌, T, Float}
use Rattle.std.specs.Float.{binary64}
use Rattle.std.specs.Float.Ieee.{fits}
use Rattle.std.specs.Float.Ieee.Scale.{finite}
use Rattle.quantity.specs.Rules.{given}
use Rattle.float_units.specs.Units.{units_of, Near}
use Rattle.thrust.specs.Rows.{row_at, lower_place, level_at_thrust}
use Rattle.thrust.specs.Laws.{AreFloats}
use Rattle.thrust.specs.declared.Row.{Row}

-- B.3 without rounding, in units, is this over f2 − f1, for f1 ≤ F ≤ f2
abbrev pub weighted : (l1 l2 F f1 f2 : ℕ) → ℕ
weighted l1 l2 F f1 f2 = l1 * (f2 - F) + l2 * (F - f1)

-- that is l1 × (f2 − f1) + (l2 − l1) × (F − f1), as B.3 is written; here with l1 × (F − f1) added to both, since l1 may be above l2
abbrev pub ExactLaw : Type 0
ExactLaw = (l1 l2 F f1 f2 : ℕ) → f1 ≤ F → F ≤ f2 → weighted l1 l2 F f1 f2 + l1 * (F - f1) ≡ l1 * (f2 - f1) + l2 * (F - f1)

-- for two rows and a thrust between them
abbrev pub exact_top : (row next : Row) → Float → ℕ
exact_top row next F = weighted (units_of row.level) (units_of next.level) (units_of F) (units_of row.thrust) (units_of next.thrust)

abbrev pub exact_bottom : (row next : Row) → ℕ
exact_bottom row next = units_of next.thrust - units_of row.thrust

-- 10^-12 dB is one of so many parts of 1 dB
abbrev pub parts_in_one : ℕ
parts_in_one = 10 ^ 12

-- 2^-1000 kN in units
abbrev pub least_apart : ℕ
least_apart = 2 ^ 74

-- a level that is given between two rows lies within 10^-12 dB of the exact value, where their thrusts are 2^-1000 kN apart or more
abbrev pub DistanceLaw : Type 0
DistanceLaw =
    (rows : List Row) (count : ℕ) (F level : Float) → AreFloats rows count → T (fits binary64 F)
    → level_at_thrust rows count F ≡ given level
    → let k = lower_place rows F (count - 1) in
    let row = row_at rows k in
    let next = row_at rows (suc k) in
    suc k < count → least_apart ≤ exact_bottom row next → Near parts_in_one level (exact_top row next F) 0 (exact_bottom row next)

-- every level that is given is finite, however near the thrusts are
abbrev pub FiniteLaw : Type 0
FiniteLaw =
    (rows : List Row) (count : ℕ) (F level : Float) → AreFloats rows count → T (fits binary64 F)
    → level_at_thrust rows count F ≡ given level → T (finite level)
