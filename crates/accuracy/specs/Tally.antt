-- Document 01, 'Day': the plain tally of demand 3, whose times are instants. It is fed the arguments of opening and of each offer and closing, and no answers.
use Rattle.std.specs.Prelude.{Bool, true, false, cond, List, [], ◌∷◌, ◌++◌, ℕ, ◌+◌, leb, eqb, length, get_or, set, replicate}
use Rattle.quantity.specs.Rules.{Rule, first_of, outcome, follow}
use Rattle.quantity.specs.Tolerance.{at_bound}
use Rattle.quantity.specs.declared.Bound.{Bound}
use Rattle.level.specs.Accuracy.{Sample, weigh}
use Rattle.event.specs.Event.{event_of}
use Rattle.event.specs.Stretch.{stretch_of, stretch_first, stretch_end}
use Rattle.clock.specs.declared.Settings.{Settings}
use Rattle.ledger.specs.Book.{sum_of}
use Rattle.ledger.specs.Day.{Opening, opened_settings}
use Rattle.admission.specs.Checks.{Offering, offer_checks, in_daytime}
use Rattle.method.specs.Method.{Counts}
use Rattle.method.specs.declared.Count.{Count}

-- the calls after opening, with their arguments: an offer, and a closing with the calibration levels before and after
pub data Call : Type 0 where
  offering : Offering → Call
  closing : (before after : ℕ) → Call

-- a stretch of the list, with its class, its period, the instant of its peak and the tolerance of its meter (W-211): its samples, and the instant of the first and the
-- instant after the last
pub record Held : Type 0 where
  pub class : ℕ
  pub daytime : Bool
  pub peak : ℕ
  pub from : ℕ
  pub to : ℕ
  pub tolerance : ℕ
  pub levels : List ℕ

-- the settings, the book, an end, a count for each class and period, and a list of stretches with their classes and periods, the latest first. A period is given by a
-- Bool: true is daytime.
pub record Tally : Type 0 where
  pub settings : Settings
  pub book : Bool → List ℕ
  pub end : ℕ
  pub count : Bool → List ℕ
  pub stretches : List Held

-- the book of two lists of flights
abbrev pub book_of : List ℕ → List ℕ → Bool → List ℕ
book_of daytime night p = cond p daytime night

-- it starts with the fresh day's end, counts 0 and no stretch
abbrev pub started : Opening → Tally
started o =
    record {
      settings = opened_settings o;
      book = book_of o.daytime o.night;
      end = o.end;
      count = λ p. replicate (length o.daytime) 0;
      stretches = [];
    }

-- the period of an offer, by its peak
abbrev pub period_in : Settings → Offering → Bool
period_in c o = in_daytime c o.recording (event_of o.samples)

-- the refusals of an offer in their order, 8 against the end and 9 against the counts
abbrev pub tally_checks : Tally → Offering → List Rule
tally_checks t o =
    let class = o.recording.class in
    let p = period_in t.settings o in
    offer_checks t.settings.rate o
    (leb (length (t.book true)) class)
    t.end
    (eqb (get_or (t.count p) class 0) (get_or (t.book p) class 0))

-- the count of a class and period is raised by one
abbrev pub same_as : Bool → Bool → Bool
same_as true b = b
same_as false true = false
same_as false false = true

abbrev pub count_raised : (Bool → List ℕ) → Bool → ℕ → Bool → List ℕ
count_raised count p class q = cond (same_as p q) (set (count q) class (get_or (count q) class 0 + 1)) (count q)

-- an offer that no rule refuses: the end, the count and the list of stretches change
abbrev pub joined : Tally → Offering → Tally
joined t o =
    let r = o.recording in
    let p = period_in t.settings o in
    record {
      settings = t.settings;
      book = t.book;
      end = r.start.0 + stretch_end o.samples;
      count = count_raised t.count p r.class;
      stretches =
          record {
            class = r.class;
            daytime = p;
            peak = r.start.0 + (event_of o.samples).peak;
            from = r.start.0 + stretch_first o.samples;
            to = r.start.0 + stretch_end o.samples;
            tolerance = r.tolerance.0;
            levels = stretch_of o.samples;
          }
          ∷ t.stretches;
    }

-- one call: an offer that a rule refuses is left out, and a closing, refused or not, changes nothing
abbrev pub tallied : Tally → Call → Tally
tallied t (offering o) = follow (outcome (first_of (tally_checks t o)) (joined t o)) (λ n. t) (λ next. next)
tallied t (closing before after) = t

-- a list of calls, the first of the list first
abbrev pub tally_of : Tally → List Call → Tally
tally_of t [] = t
tally_of t (c ∷ cs) = tally_of (tallied t c) cs

-- the numbers that choose the method: Nd and Nn of the book, the primed ones from the counts, and those of each class
abbrev pub tally_count : Tally → Bool → Count
tally_count t p = record { flights = sum_of (t.book p); events = sum_of (t.count p) }

abbrev pub tally_class : Tally → ℕ → Count
tally_class t k =
    record {
      flights = get_or (t.book true) k 0 + get_or (t.book false) k 0;
      events = get_or (t.count true) k 0 + get_or (t.count false) k 0;
    }

abbrev pub tally_counts : Tally → Counts
tally_counts t =
    record {
      classes = length (t.book true);
      totals = record { daytime = tally_count t true; night = tally_count t false };
      class = tally_class t;
    }

-- W-211: a stretch with other samples in the place of the recorded ones, and with each of them at an end of its range
abbrev pub with_levels : Held → List ℕ → Held
with_levels h levels =
    record {
      class = h.class;
      daytime = h.daytime;
      peak = h.peak;
      from = h.from;
      to = h.to;
      tolerance = h.tolerance;
      levels = levels;
    }

abbrev pub held_at : Bound → Held → Held
held_at b h = with_levels h (at_bound b h.tolerance h.levels)

-- the samples of the stretches, each with the weight of its period
abbrev pub held_samples : (Bool → ℕ) → List Held → List Sample
held_samples weight [] = []
held_samples weight (h ∷ hs) = weigh (weight h.daytime) h.levels ++ held_samples weight hs
