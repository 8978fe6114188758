-- What each exported function answers and what is in what it was lent when it returns. A refused call leaves all of it as it was.
use Rattle.std.specs.Prelude.{Bool, ◌≡◌, List, [], ◌∷◌, ℕ, ℤ, length, get_or, set}
use Rattle.quantity.specs.Rules.{Outcome, outcome, Rule, first_of}
use Rattle.quantity.specs.Lent.{Left, leaves}
use Rattle.quantity.specs.Instants.{instant_of, after_midnight}
use Rattle.limbs.specs.Value.{value}
use Rattle.ledger.specs.Day.{Opening, opened, end_for_next_day, hour_energy}
use Rattle.admission.specs.Checks.{Offering}
use Rattle.offering.specs.Offer.{offered}
use Rattle.closing.specs.Close.{Closed, day_closed}
use Rattle.mean.specs.Mean.{week_mean_of, year_mean_of}
use Rattle.mean.specs.Records.{place_rule, rules_of_rewriting}
use Rattle.pairing.specs.Pairing.{Marks}
use Rattle.pairing.specs.Answers.{Answered}
use Rattle.land.specs.Classes.{class_of}
use Rattle.land.specs.Verdict.{land_class_of, verdict_of}
use Rattle.day_words.specs.Words.{day_words, day_from}
use Rattle.c_interface.specs.Numbers.{level_number, level_from, highest_number, highest_from, class_numbers, energy_numbers, record_number, record_level, record_levels, finding_number, margin_number}

-- opening: the words of the fresh day
abbrev pub open_leaves : List ℕ → Opening → Left (List ℕ)
open_leaves day o = leaves day (opened o).answer (λ _. day_words (opened o).day)

-- an offer by its numbers
abbrev pub offering_as : (start : ℤ) (class wind : ℕ) (wet : Bool) (background tolerance : ℕ) → List ℕ → Offering
offering_as start class wind wet background tolerance samples =
    record {
      recording =
          record {
            start = instant_of start;
            class = class;
            wind = wind;
            wet = wet;
            background = record { 0 = background };
            tolerance = record { 0 = tolerance };
          };
      samples = samples;
    }

-- an offer: the words of the day afterwards, LAE and Lmax
pub record OfferLent : Type 0 where
  pub day : List ℕ
  pub exposure : ℤ
  pub lmax : ℕ

abbrev pub offer_leaves : OfferLent → Offering → Left OfferLent
offer_leaves lent o =
    let after = offered (day_from lent.day) o in
    leaves lent after.answer
    (λ a. record { day = day_words after.day; exposure = level_number a.exposure; lmax = a.lmax })

-- the end to open the next day with, in ticks after the next midnight
abbrev pub end_given : List ℕ → ℤ
end_given day = after_midnight (end_for_next_day (day_from day))

-- W-208: the energy of a clock hour in two halves of 64 bits, the lower one first
abbrev pub energy_given : List ℕ → ℕ → List ℕ
energy_given day hour = energy_numbers (value (hour_energy (day_from day) hour))

-- a closing: the day's record; the lowest and the highest Ldn (W-211); Nd', Nn' and the highest Lmax; and the highest Lmax of each class
pub record CloseLent : Type 0 where
  pub day_record : ℕ
  pub lowest_ldn : ℤ
  pub highest_ldn : ℤ
  pub counts : List ℕ
  pub highest_by_class : List ℕ

abbrev pub closed_leaves : CloseLent → Closed → Left CloseLent
closed_leaves lent closed =
    leaves lent closed.answer
    (λ c. record {
      day_record = record_number c.ldn c.method;
      lowest_ldn = level_number c.lowest_ldn;
      highest_ldn = level_number c.highest_ldn;
      counts = c.day_events ∷ c.night_events ∷ highest_number c.highest ∷ [];
      highest_by_class = class_numbers closed.highest_by_class;
    })

abbrev pub close_leaves : CloseLent → (day : List ℕ) (before after : ℕ) → Left CloseLent
close_leaves lent day before after = closed_leaves lent (day_closed (day_from day) before after)

-- a mean: its level
abbrev pub week_leaves : ℤ → List ℕ → Left ℤ
week_leaves level records = leaves level (week_mean_of (record_levels records)) level_number

abbrev pub year_leaves : ℤ → List ℕ → Left ℤ
year_leaves level records = leaves level (year_mean_of (record_levels records)) level_number

-- reading a record, and rewriting one: 13 for the place, then 14 for the new level
abbrev pub read_leaves : ℕ → List ℕ → ℕ → Left ℕ
read_leaves day_record records place =
    leaves day_record (outcome (first_of (place_rule (length records) place ∷ [])) (get_or records place 0)) (λ found. found)

abbrev pub record_rewrite_rules : List ℕ → ℕ → ℕ → List Rule
record_rewrite_rules records place new = rules_of_rewriting (length records) place (record_level new)

abbrev pub rewrite_leaves : List ℕ → ℕ → ℕ → Left (List ℕ)
rewrite_leaves records place new =
    leaves records (outcome (first_of (record_rewrite_rules records place new)) (set records place new)) (λ next. next)

-- a verdict: what it names and the margin
pub record VerdictLent : Type 0 where
  pub finding : ℕ
  pub margin : ℤ

abbrev pub verdict_leaves : VerdictLent → (class : ℕ) (yearly : ℤ) → Bool → ℕ → Left VerdictLent
verdict_leaves lent class yearly sensitive lmax =
    leaves lent (verdict_of class (level_from yearly) sensitive (highest_from lmax))
    (λ v. record { finding = finding_number v.finding; margin = margin_number v.margin })

-- pairing: the count of the pairs, and the marks
pub record PairLent : Type 0 where
  pub count : ℕ
  pub marks : Marks

-- what is left by an answer of the pairing: several are right where there are several largest pairings
pub record PairLeaves (movements peaks : List ℕ) (tolerance : ℕ) (lent : PairLent) (left : Left PairLent) : Type 0 where
  pub result : Outcome ℕ
  pub marks : Marks
  pub answered : Answered movements peaks tolerance lent.marks result marks
  pub written : left ≡ leaves lent result (λ count. record { count = count; marks = marks })

-- the class of a land code
abbrev pub class_leaves : ℕ → (letter digit : ℕ) → Left ℕ
class_leaves class letter digit = leaves class (land_class_of (class_of letter digit)) (λ known. known)
