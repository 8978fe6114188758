-- Document 02, W-210: the scale of levels reaches down to -5000. The level of a sum is a number with a sign; raised by 5000 it is a natural number, so that the
-- definitions over powers speak of natural numbers alone.
use Rattle.std.specs.Prelude.{◌≡◌, ℕ, Bool, false, ◌||◌, ℤ, pos, neg_ℤ, int_lt}
use Rattle.quantity.specs.Answers.{Reading, level, below_scale}
use Rattle.quantity.specs.Limits.{highest_day_level}
use Rattle.quantity.specs.Numbers.{from_origin, less_origin}
use Rattle.quantity.specs.declared.SignedLevel.{SignedLevel}

-- the scale begins this far below 0, and what that is as a factor of energies, 10 ^ (5000 / 1000)
abbrev pub depth : ℕ
depth = 5000

abbrev pub depth_factor : ℕ
depth_factor = 100000

-- r + 5000, of a level r on the scale
abbrev pub raised : ℤ → ℕ
raised = from_origin depth

-- the other way round, h - 5000
abbrev pub lowered : ℕ → ℤ
lowered = less_origin depth

abbrev pub lowered_level : ℕ → SignedLevel
lowered_level h = record { 0 = lowered h }

-- a level is under the scale
abbrev pub is_under_scale : ℤ → Bool
is_under_scale r = int_lt r (neg_ℤ (pos depth))

abbrev pub OnScale : ℤ → Type 0
OnScale r = is_under_scale r ≡ false

-- 'Refused calls' 14: a day's or a year's level is above 20000, or under -5000
abbrev pub is_level_outside : ℤ → Bool
is_level_outside r = int_lt (pos highest_day_level) r || is_under_scale r

abbrev pub is_reading_outside : Reading → Bool
is_reading_outside (level r) = is_level_outside r
is_reading_outside below_scale = false
