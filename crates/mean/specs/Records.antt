-- Document 01, 'Means (6-5, 6-6)' and 'Refused calls': the year as a run of day records, of which one is read or rewritten.
use Rattle.std.specs.Prelude.{List, [], ◌∷◌, ℕ, leb, pos, length, get_or, set, Result}
use Rattle.quantity.specs.Answers.{Reading, reading, method_number, outcome_of}
use Rattle.quantity.specs.Scale.{is_reading_outside}
use Rattle.quantity.specs.Rules.{Rule, first_of, Outcome, outcome, follow}
use Rattle.quantity.specs.declared.Reading.TheVariants.{At}
use Rattle.quantity.specs.declared.Method.TheVariants.{One}
use Rattle.quantity.specs.declared.DayAnswer.{DayAnswer}
use Rattle.quantity.specs.declared.Refusal.{Refusal}

-- the levels of the records
unfoldable pub readings : List DayAnswer → List Reading
readings [] = []
readings (day ∷ days) = reading day.level ∷ readings days

-- what stands past the end of a run
abbrev pub blank : DayAnswer
blank = record { level = At (record { 0 = pos 0 }); method = One }

-- a day's answer: its level or 'below scale', and the number of its method
pub record DayReading : Type 0 where
  pub level : Reading
  pub method : ℕ

abbrev pub day_reading : DayAnswer → DayReading
day_reading day = record { level = reading day.level; method = method_number day.method }

-- what reading a record answers: the day's answer, or the number of a refusal
abbrev pub read_outcome : Result DayAnswer Refusal → Outcome DayReading
read_outcome = outcome_of day_reading

-- 13: the place, counted from 0, is not below the run's length
abbrev pub place_rule : (count place : ℕ) → Rule
place_rule count place = record { number = 13; refuses = leb count place }

-- the record at a place
unfoldable pub record_at : List DayAnswer → ℕ → Outcome DayReading
record_at days place = outcome (first_of (place_rule (length days) place ∷ [])) (day_reading (get_or days place blank))

-- rewriting a record of any kind: 13 for the place, then 14 for the new level
abbrev pub rules_of_rewriting : (count place : ℕ) → Reading → List Rule
rules_of_rewriting count place new_level =
    place_rule count place ∷ record { number = 14; refuses = is_reading_outside new_level } ∷ []

abbrev pub rewrite_rules : (count place : ℕ) → DayAnswer → List Rule
rewrite_rules count place new = rules_of_rewriting count place (reading new.level)

unfoldable pub rewrite_number : (count place : ℕ) → DayAnswer → ℕ
rewrite_number count place new = first_of (rewrite_rules count place new)

-- the run with the new record at a place, or the run as it was where the call is refused
unfoldable pub rewritten : List DayAnswer → ℕ → DayAnswer → List DayAnswer
rewritten days place new = follow (outcome (rewrite_number (length days) place new) (set days place new)) (λ _. days) (λ next. next)
