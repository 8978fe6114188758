-- Document 02, W-211: 'Stretch, period and method come from the recorded samples.' What an offer is answered, and all that a closing gives beside the lowest and
-- the highest Ldn, is what it was before that request, whatever the tolerances that 23 lets through.
use Rattle.std.specs.Prelude.{◌≡◌, cond, List, [], ◌∷◌, ℕ, ◌≤◌, eqb, replicate}
use Rattle.std.proofs.Math.Option.{Option}
use Rattle.quantity.specs.Answers.{Reading}
use Rattle.quantity.specs.Limits.{largest_tolerance}
use Rattle.quantity.specs.Lists.{Each}
use Rattle.quantity.specs.Rules.{Rule, first_of, Outcome, refused, given, follow}
use Rattle.ledger.specs.Day.{Answered, hour_energy, end_for_next_day}
use Rattle.ledger.specs.declared.Period.{Period}
use Rattle.ledger.specs.declared.Day.{Day}
use Rattle.admission.specs.Checks.{Offering, day_checks}
use Rattle.offering.specs.Offer.{Accepted, admitted, unless_refused, offered}
use Rattle.closing.specs.Close.{Closed, day_closed}
use Rattle.accuracy.specs.Tally.{Call, offering, closing}
use Rattle.accuracy.specs.Terminal.{day_after_calls, day_after_calls_by}

-- an offer of a meter without a tolerance
abbrev pub exactly : Offering → Offering
exactly o =
    let r = o.recording in
    record {
      recording =
          record { start = r.start; class = r.class; wind = r.wind; wet = r.wet; background = r.background; tolerance = record { 0 = 0 } };
      samples = o.samples;
    }

-- the terminal of before: the rules without 23, and no tolerance
abbrev pub rules_before : List Rule → List Rule
rules_before [] = []
rules_before (r ∷ rs) = cond (eqb r.number 23) (rules_before rs) (r ∷ rules_before rs)

abbrev pub offered_exactly : Day → Offering → Answered Accepted
offered_exactly day o = unless_refused (first_of (rules_before (day_checks day o))) day (admitted day (exactly o))

-- a day without what it keeps for the lowest and the highest Ldn, as it was kept before
abbrev pub without_sums : Period → Period
without_sums p = record { booked = p.booked; accepted = p.accepted; cells = p.cells; lowest = replicate 4 0; highest = replicate 4 0 }

abbrev pub without_ends : Day → Day
without_ends day =
    record {
      settings = day.settings;
      classes = day.classes;
      daytime = without_sums day.daytime;
      night = without_sums day.night;
      end = day.end;
      highest = day.highest;
      highest_by_class = day.highest_by_class;
    }

-- what a closing gave before that request
pub record RecordedClosing : Type 0 where
  pub ldn : Reading
  pub method : ℕ
  pub day_events : ℕ
  pub night_events : ℕ
  pub highest : Option ℕ
  pub highest_by_class : List (Option ℕ)

abbrev pub recorded_in : Closed → Outcome RecordedClosing
recorded_in c =
    follow c.answer refused (λ x.
    given (record {
      ldn = x.ldn;
      method = x.method;
      day_events = x.day_events;
      night_events = x.night_events;
      highest = x.highest;
      highest_by_class = c.highest_by_class;
    }))

abbrev pub closed_recorded : Day → (before after : ℕ) → Outcome RecordedClosing
closed_recorded day before after = recorded_in (day_closed day before after)

-- a tolerance that 23 lets through
abbrev pub Allowed : Offering → Type 0
Allowed o = o.recording.tolerance.0 ≤ largest_tolerance

abbrev pub AllowedCall : Call → Type 0
AllowedCall (offering o) = Allowed o
AllowedCall (closing before after) = Unit

-- On two days that are alike but for the sums at both ends, the terminals of today and of before give an offer the same answer and leave days that are alike
-- again; so after every list of calls the next offer has the answer of before, and every closing, the energy of every hour and the end for the next day are those
-- of before.
pub record RecordedLaw : Type 0 where
  pub offers : (now then : Day) → without_ends now ≡ without_ends then → (o : Offering) → Allowed o
      → ((offered now o).answer ≡ (offered_exactly then o).answer) × (without_ends (offered now o).day ≡ without_ends (offered_exactly then o).day)
  pub days : (day : Day) (calls : List Call) → Each AllowedCall calls → without_ends (day_after_calls day calls) ≡ without_ends (day_after_calls_by offered_exactly day calls)
  pub closings : (now then : Day) → without_ends now ≡ without_ends then
      → ((before after : ℕ) → closed_recorded now before after ≡ closed_recorded then before after)
      × ((hour : ℕ) → hour_energy now hour ≡ hour_energy then hour)
      × (end_for_next_day now ≡ end_for_next_day then)
