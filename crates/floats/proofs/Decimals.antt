-- A decimal without places behind the point is the whole number.
use mathlib.Core.Path.{◌≡◌, refl}
use Prim.Native.Nat.{ℕ}
use lib.Ieee.{of_int}
use Rattle.floats.specs.Arithmetic.{float_of, decimal}

pub decimal_whole : (n : ℕ) → decimal n 0 ≡ float_of n
unfolding decimal of_int
decimal_whole n = refl
