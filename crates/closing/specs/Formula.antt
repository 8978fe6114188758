-- Document 01, 'Day': the two formulas of Ldn as values of one record.
use Rattle.std.specs.Prelude.{cond, ℕ, ◌+◌, ◌*◌, eqb}
use Rattle.quantity.specs.Answers.{Reading}
use Rattle.level.specs.Level.{level_of}
use Rattle.clock.specs.Clock.{samples_a_second, day_ticks}
use Rattle.clock.specs.declared.Rate.{Rate}
use Rattle.method.specs.Method.{all_of}
use Rattle.method.specs.declared.Totals.{Totals}
use Rattle.closing.specs.declared.Formula.{Formula}

-- a night event counts tenfold (6-2), and so does a night flight (6-4)
abbrev pub night_weight : ℕ
night_weight = 10

-- the draft's 49.4 dB (6-4)
abbrev pub method_two_offset : ℕ
method_two_offset = 4940

-- method one (6-2): the daytime energy plus ten times the night energy, over the ticks of a day
abbrev pub formula_one : Rate → Formula
formula_one rate = record { daytime = 1; night = night_weight; divisor = day_ticks rate; offset = 0 }

-- method two (6-3, 6-4): Nd + 10 Nn times the energy of all events, over the samples a second times N', with the offset on the level
abbrev pub flight_weight : Totals → ℕ
flight_weight t = t.daytime.flights + night_weight * t.night.flights

abbrev pub formula_two : Rate → Totals → Formula
formula_two rate t =
    record {
      daytime = flight_weight t;
      night = flight_weight t;
      divisor = samples_a_second rate * (all_of t).events;
      offset = method_two_offset;
    }

-- the formula of a method, by its number
abbrev pub formula_by : Rate → ℕ → Totals → Formula
formula_by rate method t = cond (eqb method 1) (formula_one rate) (formula_two rate t)

-- the level of a day's two energies by a formula
abbrev pub level_by : Formula → (Sd Sn : ℕ) → Reading
level_by f Sd Sn = level_of f.offset f.divisor (f.daytime * Sd + f.night * Sn)
