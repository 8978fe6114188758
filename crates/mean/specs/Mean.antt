-- Document 01, 'Means (6-5, 6-6)', and document 02, W-210: the mean of the levels of some days.
use Rattle.std.specs.Prelude.{Bool, false, ◌||◌, List, [], ◌∷◌, ℕ, ◌+◌, ltb, length, Result}
use Rattle.quantity.specs.Answers.{Reading, level, below_scale, reading, outcome_of}
use Rattle.quantity.specs.Rules.{Rule, first_of, Outcome, outcome}
use Rattle.quantity.specs.Scale.{raised, is_reading_outside}
use Rattle.quantity.specs.declared.Reading as declared
use Rattle.quantity.specs.declared.Refusal.{Refusal}
use Rattle.power.specs.Power.{e}
use Rattle.level.specs.Level.{largest_level}

-- e(Ldn + 5000) of a day; a below-scale day adds nothing
abbrev pub power_of : Reading → ℕ
power_of (level r) = e (raised r)
power_of below_scale = 0

-- the sum of e(Ldn + 5000) over the days
unfoldable pub sum_of_powers : List Reading → ℕ
sum_of_powers [] = 0
sum_of_powers (day ∷ days) = power_of day + sum_of_powers days

-- 'Refused calls' 14: a day's level is outside
unfoldable pub any_outside : List Reading → Bool
any_outside [] = false
any_outside (day ∷ days) = is_reading_outside day || any_outside days

-- 'Refused calls' 13: the number of days is not from the fewest to the most
abbrev pub is_count_wrong : (fewest most count : ℕ) → Bool
is_count_wrong fewest most count = ltb count fewest || ltb most count

-- 'Refused calls': means 13, then 14
abbrev pub mean_rules : Bool → Bool → List Rule
mean_rules count outside = record { number = 13; refuses = count } ∷ record { number = 14; refuses = outside } ∷ []

-- what a mean answers: a level or 'below scale', or the number of a refusal
abbrev pub mean_outcome : Result declared.Reading Refusal → Outcome Reading
mean_outcome = outcome_of reading

-- the mean of D days: the largest r ≥ -5000 with D * e(r + 5000) ≤ the sum of e(Ldn + 5000)
unfoldable pub mean_of : (fewest most : ℕ) → List Reading → Outcome Reading
mean_of fewest most days =
    outcome
    (first_of (mean_rules (is_count_wrong fewest most (length days)) (any_outside days)))
    (largest_level 0 (length days) (sum_of_powers days))

-- a week has exactly 7 days, a year 1 to 366
abbrev pub week_mean_of : List Reading → Outcome Reading
week_mean_of = mean_of 7 7

abbrev pub year_mean_of : List Reading → Outcome Reading
year_mean_of = mean_of 1 366
