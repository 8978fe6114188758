-- Document 01, 'Day', 'Refused calls', and document 02, W-201 and W-211: closing a day.
use Rattle.std.specs.Prelude.{List, [], ◌∷◌, ℕ, ltb, replicate, Result}
use Rattle.std.proofs.Math.Option.{Option, none}
use Rattle.quantity.specs.Answers.{Reading, reading, method_number, highest_reading, outcome_of}
use Rattle.quantity.specs.Numbers.{distance}
use Rattle.quantity.specs.Rules.{Rule, first_of, Outcome, refused, given, outcome}
use Rattle.quantity.specs.declared.Refusal.{Refusal}
use Rattle.quantity.specs.declared.Bound.{Bound}
use Rattle.quantity.specs.declared.Bound.TheVariants.{Lowest, Highest}
use Rattle.ledger.specs.Book.{most_classes}
use Rattle.ledger.specs.Day.{energy_in, energy_at_bound, levels_by_class}
use Rattle.ledger.specs.declared.Day.{Day}
use Rattle.method.specs.Method.{Counts, method_by, method_rule, counts_of}
use Rattle.closing.specs.Formula.{formula_by, level_by}
use Rattle.closing.specs.declared.Formula.{Formula}
use Rattle.closing.specs.declared.Closing as declared
use Rattle.closing.specs.declared.Closed as closeds

-- 11: the calibration levels differ by more than 50; then 12
abbrev pub largest_drift : ℕ
largest_drift = 50

abbrev pub close_rules : ℕ → ℕ → Counts → List Rule
close_rules before after c =
    record { number = 11; refuses = ltb largest_drift (distance before after) } ∷ method_rule c ∷ []

-- W-211: the level of a day by a formula, with each sample at an end of its range
abbrev pub level_at_bound : Bound → Formula → Day → Reading
level_at_bound b f day = level_by f (energy_at_bound b day.daytime) (energy_at_bound b day.night)

-- what closing returns: Ldn, the lowest and the highest Ldn (W-211), the method, Nd', Nn' and the highest Lmax, or none without events
pub record Closing : Type 0 where
  pub ldn : Reading
  pub lowest_ldn : Reading
  pub highest_ldn : Reading
  pub method : ℕ
  pub day_events : ℕ
  pub night_events : ℕ
  pub highest : Option ℕ

abbrev pub closing_reading : declared.Closing → Closing
closing_reading c =
    record {
      ldn = reading c.answer.level;
      lowest_ldn = reading c.lowest_ldn;
      highest_ldn = reading c.highest_ldn;
      method = method_number c.answer.method;
      day_events = c.day_events;
      night_events = c.night_events;
      highest = highest_reading c.highest;
    }

abbrev pub close_outcome : Result declared.Closing Refusal → Outcome Closing
close_outcome = outcome_of closing_reading

-- a day that no rule refuses, by its two energies
abbrev pub closing_by : Day → (Sd Sn : ℕ) → Closing
closing_by day Sd Sn =
    let c = counts_of day in
    let f = formula_by day.settings.rate (method_by c) c.totals in
    record {
      ldn = level_by f Sd Sn;
      lowest_ldn = level_at_bound Lowest f day;
      highest_ldn = level_at_bound Highest f day;
      method = method_by c;
      day_events = c.totals.daytime.events;
      night_events = c.totals.night.events;
      highest = highest_reading day.highest;
    }

abbrev pub closing_of : Day → Closing
closing_of day = closing_by day (energy_in day.daytime) (energy_in day.night)

-- closing reads the day and changes nothing
abbrev pub closed : Day → (before after : ℕ) → Outcome Closing
closed day before after = outcome (first_of (close_rules before after (counts_of day))) (closing_of day)

-- document 02, W-201: beside the answer the highest Lmax of each class, or none
pub record Closed : Type 0 where
  pub answer : Outcome Closing
  pub highest_by_class : List (Option ℕ)

abbrev pub closed_reading : closeds.Closed → Closed
closed_reading c = record { answer = close_outcome c.answer; highest_by_class = levels_by_class c.highest_by_class }

-- a refused closing has none in every class
abbrev pub classes_given : Day → Outcome Closing → List (Option ℕ)
classes_given day (given c) = levels_by_class day.highest_by_class
classes_given day (refused n) = replicate most_classes none

abbrev pub day_closed : Day → (before after : ℕ) → Closed
day_closed day before after =
    let answer = closed day before after in
    record { answer = answer; highest_by_class = classes_given day answer }
