-- Document 02, W-205: a time before midnight is a negative number of ticks. An instant is kept as the ticks from an origin that lies before every time of
-- 32 bits, so that the definitions over instants speak of natural numbers alone.
use Rattle.std.specs.Prelude.{ℕ, ℤ}
use Rattle.quantity.specs.Numbers.{from_origin, less_origin}
use Rattle.quantity.specs.declared.Instant.{Instant}

-- the ticks from the origin to the day's midnight
abbrev pub midnight : ℕ
midnight = 2147483648

-- the ticks from the origin to a time
abbrev pub ticks_of : ℤ → ℕ
ticks_of = from_origin midnight

abbrev pub instant_at : ℕ → Instant
instant_at n = record { 0 = n }

abbrev pub instant_of : ℤ → Instant
instant_of z = instant_at (ticks_of z)

-- the other way round, the time of an instant
abbrev pub after_midnight : Instant → ℤ
after_midnight t = less_origin midnight t.0
