-- How near a result in f64 is to an exact value. All numbers here are whole: sizes are counted in units of 2^-1074, the smallest f64 above zero, and every f64 is
-- so many of them.
use Rattle.std.specs.Prelude.{ℕ, ◌+◌, ◌*◌, ◌/◌, ◌^◌, ◌≤◌, true, false, T, Float}
use Rattle.std.specs.Float.{nan, inf, fin}
use Rattle.std.specs.Float.Ieee.{up, down}
use Rattle.std.specs.Float.Ieee.Scale.{finite}
use Rattle.quantity.specs.Numbers.{distance}

-- how many units make 1
unfoldable pub units_in_one : ℕ
units_in_one = 2 ^ 1074

-- the size of a finite value in units, without its sign; for an f64 nothing is left over in the division
abbrev pub units_of : Float → ℕ
units_of nan = 0
units_of (inf s) = 0
units_of (fin s m e) = m * up e * units_in_one / down e

-- a value is its units above zero less those below: one of the two is 0
abbrev pub units_above : Float → ℕ
units_above nan = 0
units_above (inf s) = 0
units_above (fin false m e) = units_of (fin false m e)
units_above (fin true m e) = 0

abbrev pub units_below : Float → ℕ
units_below nan = 0
units_below (inf s) = 0
units_below (fin false m e) = 0
units_below (fin true m e) = units_of (fin true m e)

-- x is finite, and apart by one of so many parts of 1 at the most from the exact value, which is (plus − minus) / bottom units
abbrev pub Near : (parts : ℕ) → Float → (plus minus bottom : ℕ) → Type 0
Near parts x plus minus bottom = T (finite x) × (parts * distance (units_above x * bottom + minus) (units_below x * bottom + plus) ≤ bottom * units_in_one)
