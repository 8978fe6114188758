-- Demand 3 for means (document 01, 'Powers', 'Means'): the sum runs, for each of the days, over the stretches held at the closing whose answer
-- that day's record holds.
use Rattle.std.specs.Prelude.{◌≡◌, Bool, true, false, cond, ◌⊎◌, List, [], ◌∷◌, ◌++◌, ℕ, ◌*◌, ◌/◌, ℤ, length}
use Rattle.quantity.specs.Answers.{Reading, level, below_scale}
use Rattle.quantity.specs.Lists.{Each}
use Rattle.quantity.specs.Rules.{Outcome, refused, given}
use Rattle.quantity.specs.declared.DayAnswer.{DayAnswer}
use Rattle.level.specs.Accuracy.{Sample, Accurate}
use Rattle.clock.specs.Clock.{samples_a_second}
use Rattle.clock.specs.declared.Rate.{Rate}
use Rattle.closing.specs.Formula.{formula_one}
use Rattle.closing.specs.Close.{Closing, closed}
use Rattle.mean.specs.Mean.{is_count_wrong, week_mean_of, year_mean_of}
use Rattle.mean.specs.Records.{readings, day_reading}
use Rattle.accuracy.specs.Tally.{held_samples}
use Rattle.accuracy.specs.Terminal.{CalledDay, day_of, held_in, rate_in}
use Rattle.accuracy.specs.Demand.{Claim}

-- a day of a mean: a day with its own list of calls, a closing after them, and the day's record, which holds that answer
pub record ClosedDay : Type 0 where
  pub day : CalledDay
  pub before : ℕ
  pub after : ℕ
  pub closing : Closing
  pub closes : closed (day_of day) before after ≡ given closing
  pub kept : DayAnswer
  pub holds : day_reading kept ≡ record { level = closing.ldn; method = closing.method }

-- W-202: so that days of different rates stand side by side, each weight is multiplied by 40 over the rate of its day
abbrev pub rate_weight : Rate → ℕ
rate_weight rate = 40 / samples_a_second rate

-- the weights of method one, by day and by night
abbrev pub mean_weight : Rate → Bool → ℕ
mean_weight rate p = rate_weight rate * cond p (formula_one rate).daytime (formula_one rate).night

-- the samples of the stretches held at its closing
abbrev pub day_samples : ClosedDay → List Sample
day_samples d = held_samples (mean_weight (rate_in d.day)) (held_in d.day)

-- the records and the samples of some days
abbrev pub records_of : List ClosedDay → List DayAnswer
records_of [] = []
records_of (d ∷ ds) = d.kept ∷ records_of ds

abbrev pub samples_of : List ClosedDay → List Sample
samples_of [] = []
samples_of (d ∷ ds) = day_samples d ++ samples_of ds

-- what the promise asks of each day: a level on the scale, so of -5000 or more, by method one
pub record Measured (d : ClosedDay) : Type 0 where
  pub ldn : ℤ
  pub on_scale : d.closing.ldn ≡ level ldn
  pub by_method_one : d.closing.method ≡ 1

-- a day without any stretch held, which is below scale
pub record Quiet (d : ClosedDay) : Type 0 where
  pub none : held_in d.day ≡ []
  pub is_below_scale : d.closing.ldn ≡ below_scale

-- M is 3456000 * D, G + 1 becomes G + 3 and r + 1 becomes r + 2
abbrev pub mean_ticks : ℕ
mean_ticks = 3456000

abbrev pub MeanAccurate : ℕ → List ClosedDay → Reading → Type 0
MeanAccurate K days = Accurate 3 2 0 K (mean_ticks * length days) (samples_of days)

-- a mean is given where the number of days is right, and such days are refused for their number alone
abbrev pub MeanDemanded : (fewest most K : ℕ) → List ClosedDay → Outcome Reading → Type 0
MeanDemanded fewest most K days (given r) = (is_count_wrong fewest most (length days) ≡ false) × MeanAccurate K days r
MeanDemanded fewest most K days (refused n) = (n ≡ 13) × (is_count_wrong fewest most (length days) ≡ true)

-- for every K and all such days, whatever their rates and their calls: the mean of a week and that of a year
unfoldable pub MeanClaim : Type 0
MeanClaim =
    (K : ℕ) (days : List ClosedDay) → Each Measured days
    → MeanDemanded 7 7 K days (week_mean_of (readings (records_of days)))
    × MeanDemanded 1 366 K days (year_mean_of (readings (records_of days)))

-- beside the claim: quiet days may stand among the days where the mean is on the scale
unfoldable pub QuietLaw : Type 0
QuietLaw =
    (K : ℕ) (days : List ClosedDay) → Each (λ d. Measured d ⊎ Quiet d) days → (r : ℤ)
    → (week_mean_of (readings (records_of days)) ≡ given (level r) → MeanAccurate K days (level r))
    × (year_mean_of (readings (records_of days)) ≡ given (level r) → MeanAccurate K days (level r))

-- Demand 3 whole: offers, closings and both means
unfoldable pub Demand3 : Type 0
Demand3 = Claim × MeanClaim
