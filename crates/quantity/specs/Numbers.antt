-- What is said of numbers in more than one crate.
use Rattle.std.specs.Prelude.{ℕ, suc, ◌+◌, ◌-◌, cond, ℤ, pos, negsuc, nat_lt}
use Rattle.std.proofs.Math.IntN.{sub_ℕ}

-- |a - b|: one of the two differences is 0
abbrev pub distance : ℕ → ℕ → ℕ
distance a b = (a - b) + (b - a)

-- a number with a sign that is not below -origin, raised by the origin, so that it is a natural number; `negsuc n` is -(n + 1)
abbrev pub from_origin : (origin : ℕ) → ℤ → ℕ
from_origin origin (pos n) = origin + n
from_origin origin (negsuc n) = origin - suc n

-- the other way round: the difference of two natural numbers
abbrev pub less_origin : (origin : ℕ) → ℕ → ℤ
less_origin origin n = sub_ℕ n origin

-- the number that 32 bits are in two's complement, and the bits of a number
abbrev pub signed : ℕ → ℤ
signed bits = cond (nat_lt bits 2147483648) (pos bits) (negsuc (4294967295 - bits))

abbrev pub bits_of : ℤ → ℕ
bits_of (pos n) = n
bits_of (negsuc n) = 4294967295 - n
