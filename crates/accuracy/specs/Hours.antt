-- Document 02, W-208: the energy of each clock hour over lists of calls; and 'every Ldn must be the one of old', though energies are added in another order
-- than they came.
use Rattle.std.specs.Prelude.{◌≡◌, Bool, true, false, cond, List, [], ◌∷◌, ℕ, zero, suc, ◌+◌, ◌-◌, ◌*◌, ◌^◌, ◌≤◌, ◌<◌, eqb, get_or}
use Rattle.quantity.specs.Instants.{midnight}
use Rattle.quantity.specs.Lists.{Each}
use Rattle.quantity.specs.Rules.{first_of, Outcome, outcome, follow}
use Rattle.power.specs.Power.{X, G}
use Rattle.limbs.specs.Value.{value, limbs_of}
use Rattle.level.specs.Accuracy.{weighted}
use Rattle.clock.specs.Clock.{day_end, hours, hour_of}
use Rattle.clock.specs.declared.Rate.{Rate}
use Rattle.event.specs.Window.{highest}
use Rattle.decades.specs.Decades.{energies}
use Rattle.exposure.specs.Exposure.{energy_of}
use Rattle.ledger.specs.Day.{Opening, open_rules, opened_day, energy_in, hour_energy}
use Rattle.ledger.specs.declared.Day.{Day}
use Rattle.admission.specs.Checks.{day_checks}
use Rattle.method.specs.Method.{counts_of}
use Rattle.closing.specs.Close.{Closing, close_rules, closing_by, closed}
use Rattle.accuracy.specs.Tally.{Call, offering, closing, Held, Tally, period_in, same_as, held_samples}
use Rattle.accuracy.specs.Terminal.{day_after, day_after_calls, CalledDay}
use Rattle.accuracy.specs.Laws.{Always}
use Rattle.accuracy.specs.NextDay.{held_in_row}

-- the stretches whose peak lies in a clock hour, and the sum of e over stretches
abbrev pub of_hour : Rate → ℕ → List Held → List Held
of_hour rate hour [] = []
of_hour rate hour (h ∷ hs) = cond (eqb (hour_of rate h.peak) hour) (h ∷ of_hour rate hour hs) (of_hour rate hour hs)

unfoldable pub held_energy : List Held → ℕ
held_energy [] = 0
held_energy (h ∷ hs) = energies h.levels + held_energy hs

-- the peak of a stretch is an instant of it, at which it has its highest level; so it is for the stretches of a day, and for those of days in a row
abbrev pub HasPeak : Held → Type 0
HasPeak h = (h.from ≤ h.peak) × (h.peak < h.to) × (get_or h.levels (h.peak - h.from) 0 ≡ highest h.levels)

abbrev pub PeakLaw : Type 0
PeakLaw = Always (λ t day. Each HasPeak t.stretches) × ((d : CalledDay) (ds : List CalledDay) → Each HasPeak (held_in_row d ds))

-- W-205: each stretch has its peak in the day, so in one of its 24 hours
abbrev pub PeaksInDay : Rate → List Held → Type 0
PeaksInDay rate = Each (λ h. (midnight ≤ h.peak) × (h.peak < day_end rate))

-- after every list of calls, the energy of an hour is the sum of e over the stretches of the tally whose peak lies in that hour. It holds for every number
-- of an hour, so that one above 23 has 0.
abbrev pub HourGives : Tally → Day → ℕ → Type 0
HourGives t day hour = value (hour_energy day hour) ≡ held_energy (of_hour t.settings.rate hour t.stretches)

abbrev pub HourLaw : Type 0
HourLaw = Always (λ t day. (hour : ℕ) → HourGives t day hour)

-- the 24 hours together have the energy of the two periods, of which closing forms Ldn
abbrev pub sum_of_hours : (energy : ℕ → ℕ) → ℕ → ℕ
sum_of_hours energy zero = 0
sum_of_hours energy (suc n) = sum_of_hours energy n + energy n

abbrev pub AddUp : Day → Type 0
AddUp day = sum_of_hours (λ hour. value (hour_energy day hour)) hours ≡ energy_in day.daytime + energy_in day.night

abbrev pub HoursAddUp : Type 0
HoursAddUp = Always (λ t day. AddUp day)

-- Beyond the request: how far that number, S, is from the exact energy of these stretches, the sum of 10 ^ (c / 1000) over their samples, in units of which a
-- sample of level 0 has G. To K places, for every K: the exact energy is at most S raised by one part in G, and S is at most the exact energy.
abbrev pub HourAccuracy : Type 0
HourAccuracy =
    (K : ℕ)
    → Always (λ t day.
    (hour : ℕ)
    → let samples = held_samples (λ p. 1) (of_hour t.settings.rate hour t.stretches) in
    let S = value (hour_energy day hour) in
    (G * G * weighted (X K) samples ≤ (G + 1) * S * 10 ^ K) × (S * 10 ^ K ≤ G * weighted (λ c. X K c + 1) samples))

-- Before this request the day kept one sum for each period, to which the energy of each accepted event was added as it came, modulo 2 ^ 128: that sum after a
-- call on a day, and after a list of calls.
abbrev pub sum_after : Bool → Day → Call → ℕ → ℕ
sum_after p day (offering o) sum =
    follow (outcome (first_of (day_checks day o)) (energy_of o.samples))
    (λ n. sum)
    (λ S. cond (same_as (period_in day.settings o) p) (value (limbs_of 4 (sum + S))) sum)
sum_after p day (closing before after) sum = sum

abbrev pub sum_after_calls : Bool → Day → List Call → ℕ → ℕ
sum_after_calls p day [] sum = sum
sum_after_calls p day (c ∷ cs) sum = sum_after_calls p (day_after day c) cs (sum_after p day c sum)

-- a closing by these two sums
abbrev pub closed_before : (sums : Bool → ℕ) → Day → (before after : ℕ) → Outcome Closing
closed_before sums day before after =
    outcome (first_of (close_rules before after (counts_of day))) (closing_by day (sums true) (sums false))

-- every closing is the one of old
abbrev pub LdnLaw : Type 0
LdnLaw =
    (o : Opening) → first_of (open_rules o) ≡ 0 → (calls : List Call) (before after : ℕ)
    → closed (day_after_calls (opened_day o) calls) before after
    ≡ closed_before (λ p. sum_after_calls p (opened_day o) calls 0) (day_after_calls (opened_day o) calls) before after
