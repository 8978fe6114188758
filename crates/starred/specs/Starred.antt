-- Document 01, 'Edges': the starred cases as one table of questions and answers. An answer is what the definitions give that the contracts cite.
use Rattle.std.specs.Prelude.{Bool, false, List, [], ◌∷◌, ◌≡◌, ℕ, zero, suc, ◌+◌, ℤ, pos, neg_ℤ, length, replicate}
use Rattle.std.proofs.Math.Option.{Option, some, none}
use Rattle.quantity.specs.Answers.{Reading, level, below_scale}
use Rattle.quantity.specs.Instants.{instant_of}
use Rattle.quantity.specs.Rules.{Outcome, given}
use Rattle.power.specs.Power.{m}
use Rattle.exposure.specs.Exposure.{exposure_of}
use Rattle.clock.specs.declared.Rate.TheVariants.{Ten}
use Rattle.ledger.specs.Day.{opened}
use Rattle.ledger.specs.Before.{opening_before}
use Rattle.admission.specs.Checks.{Offering}
use Rattle.offering.specs.Offer.{offered}
use Rattle.ledger.specs.declared.Day.{Day}
use Rattle.closing.specs.Close.{Closing, closed}
use Rattle.mean.specs.Mean.{week_mean_of}
use Rattle.land.specs.Classes.{I}
use Rattle.land.specs.Verdict.{Assessment, verdict_of}
use Rattle.land.specs.Answers.{finding_reading}
use Rattle.land.specs.declared.Finding.{Finding}
use Rattle.land.specs.declared.Finding.TheVariants.{Within, OverLevel}

-- a book: the flights of each class by day, and by night
pub record Book : Type 0 where
  pub daytime : List ℕ
  pub night : List ℕ

-- what a case asks for
pub data Question : Type 0 where
  -- m(f)
  mantissa : (f : ℕ) → Question
  -- LAE of the samples of a window
  exposure : (samples : List ℕ) → Question
  -- what closing answers on a day of this book, after these offers
  closing : Book → List Offering → Question
  -- the mean of a week's days
  week : (days : List Reading) → Question
  -- the verdict for a land class, a year's level, a sensitive building or none, and the highest Lmax
  verdict : (class : ℕ) (yearly : Reading) (sensitive : Bool) (highest : Option ℕ) → Question

abbrev pub Answer : Question → Type 0
Answer (mantissa f) = ℕ
Answer (exposure samples) = Reading
Answer (closing book offers) = Outcome Closing
Answer (week days) = Outcome Reading
Answer (verdict class yearly sensitive highest) = Outcome Assessment

-- the day after some offers
abbrev pub day_after_offers : Day → List Offering → Day
day_after_offers day [] = day
day_after_offers day (o ∷ os) = day_after_offers (offered day o).day os

-- the definitions' answer, for a terminal with the settings of document 01; a day is closed with the calibration of the example, 9400 before and after
abbrev pub answer : (q : Question) → Answer q
answer (mantissa f) = m f
answer (exposure samples) = exposure_of Ten samples
answer (closing book offers) = closed (day_after_offers (opened (opening_before book.daytime book.night)).day offers) 9400 9400
answer (week days) = week_mean_of days
answer (verdict class yearly sensitive highest) = verdict_of class yearly sensitive highest

-- a row of the table
pub record Row : Type 0 where
  pub question : Question
  pub expected : Answer question

infix 70 ◌is◌
abbrev pub ◌is◌ : (q : Question) → Answer q → Row
q is a = record { question = q; expected = a }

-- every row's answer is the expected one
abbrev pub AllHold : List Row → Type 0
AllHold [] = Unit
AllHold (r ∷ rs) = (answer r.question ≡ r.expected) × AllHold rs

-- a book of one class
abbrev pub one_class : ℕ → ℕ → Book
one_class daytime night = record { daytime = daytime ∷ []; night = night ∷ [] }

-- the five samples of the example, and so many events of them, the first at a start in ticks after midnight and each behind the one before
abbrev pub five_samples : List ℕ
five_samples = 6000 ∷ 8000 ∷ 8000 ∷ 8000 ∷ 6000 ∷ []

abbrev pub flyover : (start : ℕ) → Offering
flyover start =
    record {
      recording =
          record {
            start = instant_of (pos start);
            class = 0;
            wind = 30;
            wet = false;
            background = record { 0 = 6000 };
            tolerance = record { 0 = 0 };
          };
      samples = five_samples;
    }

abbrev pub flyovers : (count start : ℕ) → List Offering
flyovers zero start = []
flyovers (suc n) start = flyover start ∷ flyovers n (start + length five_samples)

abbrev pub noon : ℕ
noon = 432000

-- the last start in daytime, from which the peak is in the night
abbrev pub last_daytime_start : ℕ
last_daytime_start = 791999

-- a level that is not negative
abbrev pub at : ℕ → Reading
at r = level (pos r)

-- a verdict with a margin
abbrev pub assessed : Finding → ℤ → Outcome Assessment
assessed finding margin = given (record { finding = finding_reading finding; margin = some margin })

-- what closing gives: Ldn, the method, Nd', Nn' and the highest Lmax. The flyovers have no tolerance, so the lowest and the highest Ldn (document 02,
-- W-211) are Ldn itself.
abbrev pub closes : (ldn : Reading) (method day_events night_events : ℕ) (highest : Option ℕ) → Outcome Closing
closes ldn method day_events night_events highest =
    given (record {
      ldn = ldn;
      lowest_ldn = ldn;
      highest_ldn = ldn;
      method = method;
      day_events = day_events;
      night_events = night_events;
      highest = highest;
    })

-- The starred cases in the paper's order. Without a sensitive building an Lmax above 9000 does not count. In the last two rows, nine of ten flights and eight of nine, the case is the method.
abbrev pub starred : List Row
starred =
    mantissa 500 is 3162277660
    ∷ exposure five_samples is at 7477
    ∷ closing (one_class 1 0) (flyovers 1 noon) is closes (at 2540) 1 1 0 (some 8000)
    ∷ closing (one_class 0 1) (flyovers 1 last_daytime_start) is closes (at 3540) 1 0 1 (some 8000)
    ∷ closing (one_class 2 0) (flyovers 1 noon) is closes (at 2838) 2 1 0 (some 8000)
    ∷ week (at 7000 ∷ replicate 6 (at 6000)) is given (at 6359)
    ∷ week (replicate 7 (at 6000)) is given (at 6000)
    ∷ closing (one_class 0 0) [] is closes below_scale 1 0 0 none
    ∷ verdict I (at 5700) false (some 9001) is assessed Within (pos 0)
    ∷ verdict I (at 5701) false (some 9001) is assessed OverLevel (neg_ℤ (pos 1))
    ∷ closing (one_class 10 0) (flyovers 9 noon) is closes (at 3494) 1 9 0 (some 8000)
    ∷ closing (one_class 9 0) (flyovers 8 noon) is closes (at 3491) 2 8 0 (some 8000)
    ∷ []
