-- Document 02, W-206: 'one rounding per operation', and W-207: 'each constant being the f64 nearest to its decimal'. The operations on f64 of IEEE 754, each
-- rounded once to the nearest, a tie to the even one, and constants rounded so.
use Rattle.std.specs.Prelude.{ℕ, ◌^◌, Bool, false, ◌&&◌, pos, Float}
use Rattle.std.specs.Float.{binary64}
use Rattle.std.specs.Float.Ieee.{of_int, round, add, sub, mul, div, le}

-- the sum, the difference, the product and the quotient
infixl 6 ◌+ᶠ◌
abbrev pub ◌+ᶠ◌ : Float → Float → Float
x +ᶠ y = add binary64 x y

infixl 6 ◌-ᶠ◌
abbrev pub ◌-ᶠ◌ : Float → Float → Float
x -ᶠ y = sub binary64 x y

infixl 7 ◌*ᶠ◌
abbrev pub ◌*ᶠ◌ : Float → Float → Float
x *ᶠ y = mul binary64 x y

infixl 7 ◌/ᶠ◌
abbrev pub ◌/ᶠ◌ : Float → Float → Float
x /ᶠ y = div binary64 x y

-- the f64 of a whole number
abbrev pub float_of : ℕ → Float
float_of n = of_int binary64 (pos n)

-- the f64 nearest to a decimal, given by its digits and how many of them stand behind the point: 148.4 is `decimal 1484 1`
unfoldable pub decimal : (digits places : ℕ) → Float
decimal digits places = round binary64 false digits (10 ^ places)

-- from low to high; −0 is 0, and 'NaN is outside every range'
abbrev pub within : Float → Float → Float → Bool
within low high x = le low x && le x high
