-- Document 02, W-210: 'Levels of 0 and above for events and days are unchanged.' Here stand the levels as document 01 has them, from 0 on, the answers by them, and
-- what is said of the answers by both scales.
use Rattle.std.specs.Prelude.{◌≡◌, Bool, false, ◌||◌, List, [], ◌∷◌, map, ℕ, ◌+◌, ◌*◌, ◌<◌, ltb, ℤ, pos, neg_ℤ, length, ◌<ℤ◌}
use Rattle.std.proofs.Math.Option.{Option, some, none}
use Rattle.quantity.specs.Answers.{Reading, level, below_scale}
use Rattle.quantity.specs.Limits.{highest_day_level}
use Rattle.quantity.specs.Rules.{first_of, Outcome, refused, given, outcome, follow}
use Rattle.power.specs.Power.{e}
use Rattle.level.specs.Level.{height_of, level_of, NoHigher}
use Rattle.clock.specs.Clock.{samples_a_second}
use Rattle.clock.specs.declared.Rate.{Rate}
use Rattle.clock.specs.declared.Rate.TheVariants.{Ten, Twenty, Forty}
use Rattle.exposure.specs.Exposure.{energy_of}
use Rattle.ledger.specs.Day.{energy_in}
use Rattle.ledger.specs.declared.Day.{Day}
use Rattle.admission.specs.Checks.{Offering, day_checks}
use Rattle.offering.specs.Offer.{offered}
use Rattle.method.specs.Method.{method_by, counts_of}
use Rattle.closing.specs.Formula.{formula_by}
use Rattle.closing.specs.Close.{close_rules, closed}
use Rattle.mean.specs.Mean.{is_count_wrong, mean_rules, mean_of}

-- document 01, 'Powers': the largest r ≥ 0 with M * e(r + d) ≤ S, and below scale none
abbrev pub level_before : (d M S : ℕ) → Option ℕ
level_before = height_of

-- LAE of an offer, Ldn of a closing, and the mean of days as they were. No rule that refuses an offer or a closing, and nothing in a day, is a level of a sum.
abbrev pub exposure_before : Day → Offering → Outcome (Option ℕ)
exposure_before day o = outcome (first_of (day_checks day o)) (level_before 0 (samples_a_second day.settings.rate) (energy_of o.samples))

abbrev pub ldn_before : Day → (before after : ℕ) → Outcome (Option ℕ)
ldn_before day before after =
    let c = counts_of day in
    let f = formula_by day.settings.rate (method_by c) c.totals in
    outcome (first_of (close_rules before after c))
    (level_before f.offset f.divisor (f.daytime * energy_in day.daytime + f.night * energy_in day.night))

abbrev pub sum_before : List (Option ℕ) → ℕ
sum_before [] = 0
sum_before (some r ∷ days) = e r + sum_before days
sum_before (none ∷ days) = sum_before days

abbrev pub any_too_high : List (Option ℕ) → Bool
any_too_high [] = false
any_too_high (some r ∷ days) = ltb highest_day_level r || any_too_high days
any_too_high (none ∷ days) = any_too_high days

abbrev pub mean_before : (fewest most : ℕ) → List (Option ℕ) → Outcome (Option ℕ)
mean_before fewest most days =
    outcome
    (first_of (mean_rules (is_count_wrong fewest most (length days)) (any_too_high days)))
    (level_before 0 (length days) (sum_before days))

-- a level of before as a reading of today
abbrev pub same_today : Option ℕ → Reading
same_today (some r) = level (pos r)
same_today none = below_scale

-- a level of 0 or more is the one of before; what was below scale is under 0, or below scale still
abbrev pub Kept : (before : Option ℕ) (now : Reading) → Type 0
Kept (some r) now = now ≡ level (pos r)
Kept none (level r) = r <ℤ pos 0
Kept none below_scale = Unit

abbrev pub KeptOutcome : (before : Outcome (Option ℕ)) (now : Outcome Reading) → Type 0
KeptOutcome (given b) (given r) = Kept b r
KeptOutcome (refused n) (refused k) = n ≡ k
KeptOutcome (given b) (refused k) = ⊥
KeptOutcome (refused n) (given r) = ⊥

-- the level in an answer
abbrev pub level_in : {A : Type 0} → (A → Reading) → Outcome A → Outcome Reading
level_in of answer = follow answer refused (λ a. given (of a))

-- every sum; so on any day every offer and every closing; and every mean of days that have the levels of before
pub record QuietFieldsLaw : Type 0 where
  pub levels : (d M S : ℕ) → 0 < M → Kept (level_before d M S) (level_of d M S)
  pub offers : (day : Day) (o : Offering) → KeptOutcome (exposure_before day o) (level_in (λ a. a.exposure) (offered day o).answer)
  pub closings : (day : Day) (before after : ℕ) → KeptOutcome (ldn_before day before after) (level_in (λ c. c.ldn) (closed day before after))
  pub means : (fewest most : ℕ) → 0 < fewest → (days : List (Option ℕ)) → KeptOutcome (mean_before fewest most days) (mean_of fewest most (map same_today days))

-- Beyond the request: no event is below scale. What is accepted has an Lmax of 1500 or more (refusal 6), so its LAE is no lower than that of a lone sample of 1500.
abbrev pub lowest_exposure : Rate → ℤ
lowest_exposure Ten = pos 500
lowest_exposure Twenty = pos 198
lowest_exposure Forty = neg_ℤ (pos 103)

abbrev pub NoLower : ℤ → Outcome Reading → Type 0
NoLower r (given a) = NoHigher (level r) a
NoLower r (refused n) = Unit

abbrev pub FaintestLaw : Type 0
FaintestLaw = (day : Day) (o : Offering) → NoLower (lowest_exposure day.settings.rate) (level_in (λ a. a.exposure) (offered day o).answer)
