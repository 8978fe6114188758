-- Document 01, 'Refused calls': the limits that more than one call is held to.
use Rattle.std.specs.Prelude.{ℕ}

-- 4: no sample, no background and no Lmax is above it
abbrev pub highest_sample : ℕ
highest_sample = 14000

-- 23 (document 02, W-211): no meter's tolerance is above it
abbrev pub largest_tolerance : ℕ
largest_tolerance = 300

-- 14: no day's and no year's level is above it; the lowest one is that of the scale
abbrev pub highest_day_level : ℕ
highest_day_level = 20000
