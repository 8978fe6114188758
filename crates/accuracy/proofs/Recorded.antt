-- What an offer is answered and what a closing gives beside the lowest and the highest Ldn is what it was: no test and no recorded sum reads a tolerance that 23
-- lets through, nor the sums at both ends.
use mathlib.Core.Path.{◌≡◌, refl, sym, ap, ◌∙◌}
use mathlib.Core.Bool.{Bool, true, false}
use mathlib.Core.List.{List, [], ◌∷◌}
use Prim.Native.Nat.{ℕ, zero, suc}
use borrow.Author.Tests.{le-ltb}
use Rattle.quantity.specs.Limits.{largest_tolerance}
use Rattle.quantity.specs.Lists.{Each}
use Rattle.quantity.specs.Rules.{first_of, Outcome, outcome}
use Rattle.event.specs.Event.{event_of}
use Rattle.exposure.specs.Exposure.{energy_range_by}
use Rattle.ledger.specs.Day.{period_of, hour_energy, end_for_next_day}
use Rattle.ledger.specs.declared.Day.{Day}
use Rattle.admission.specs.Checks.{Offering, day_checks, in_daytime, used_up}
use Rattle.offering.specs.Offer.{entered_in, entered, admitted, unless_refused, offered}
use Rattle.method.specs.Method.{counts_of}
use Rattle.closing.specs.Close.{close_rules, closing_of, classes_given}
use Rattle.accuracy.specs.Tally.{Call, offering, closing}
use Rattle.accuracy.specs.Terminal.{day_after_calls, day_after_calls_by}
use Rattle.accuracy.specs.Recorded.{exactly, rules_before, offered_exactly, without_ends, RecordedClosing, recorded_in, closed_recorded, Allowed, AllowedCall, RecordedLaw}

-- no rule reads the sums at both ends
same_used : (day : Day) (p : Bool) (class : ℕ) → used_up (period_of (without_ends day) p) class ≡ used_up (period_of day p) class
same_used day true class = refl
same_used day false class = refl

same_checks : (day : Day) (o : Offering) → day_checks (without_ends day) o ≡ day_checks day o
same_checks day o = rw (same_used day (in_daytime day.settings o.recording (event_of o.samples)) o.recording.class)

-- 23 does not refuse
same_rules : (day : Day) (o : Offering) → Allowed o → first_of (day_checks day o) ≡ first_of (rules_before (day_checks day o))
unfolding first_of
same_rules day o allowed = rw (le-ltb largest_tolerance o.recording.tolerance.0 allowed)

-- an event enters alike, with the same recorded energy
same_entered : (p : Bool) (day : Day) (o : Offering) → let v = event_of o.samples in
    without_ends (entered_in p day o.recording v (energy_range_by v o.recording.tolerance.0 o.samples))
    ≡ without_ends (entered_in p (without_ends day) (exactly o).recording v (energy_range_by v 0 o.samples))
same_entered true day o = refl
same_entered false day o = refl

-- two days that are alike but for the sums at both ends
module _ (now then : Day) (alike : without_ends now ≡ without_ends then) where
  same_settings : now.settings ≡ then.settings
  same_settings = ap (λ (day : Day). day.settings) alike

  module _ (o : Offering) where
    both_checks : day_checks now o ≡ day_checks then o
    both_checks = sym (same_checks now o) ∙ ap (λ (day : Day). day_checks day o) alike ∙ same_checks then o

    same_number : Allowed o → first_of (day_checks now o) ≡ first_of (rules_before (day_checks then o))
    same_number allowed = same_rules now o allowed ∙ ap (λ rules. first_of (rules_before rules)) both_checks

    same_answer : (n : ℕ) → (unless_refused n now (admitted now o)).answer ≡ (unless_refused n then (admitted then (exactly o))).answer
    same_answer zero = rw same_settings
    same_answer (suc n) = refl

    same_day_lem : (n : ℕ) → without_ends (unless_refused n now (admitted now o)).day ≡ without_ends (unless_refused n then (admitted then (exactly o))).day
    same_day_lem zero =
        let v = event_of o.samples in
        same_entered (in_daytime now.settings o.recording v) now o
        ∙ ap (λ (day : Day). without_ends (entered day (exactly o).recording v (energy_range_by v 0 o.samples))) alike
        ∙ sym (same_entered (in_daytime then.settings o.recording v) then (exactly o))
    same_day_lem (suc n) = alike

    offers_alike : Allowed o
        → ((offered now o).answer ≡ (offered_exactly then o).answer) × (without_ends (offered now o).day ≡ without_ends (offered_exactly then o).day)
    offers_alike allowed =
        let n = first_of (rules_before (day_checks then o)) in
        rw (same_number allowed) (same_answer n, same_day_lem n)

-- a closing does not read them but for the lowest and the highest Ldn
same_closed : (day : Day) (before after : ℕ) → closed_recorded (without_ends day) before after ≡ closed_recorded day before after
same_closed day before after = by_number (first_of (close_rules before after (counts_of day)))
  where
    closed_by : Day → ℕ → Outcome RecordedClosing
    closed_by d n = let answer = outcome n (closing_of d) in recorded_in (record { answer = answer; highest_by_class = classes_given d answer })

    by_number : (n : ℕ) → closed_by (without_ends day) n ≡ closed_by day n
    by_number zero = refl
    by_number (suc n) = refl

-- lists of calls
days_alike : (now then : Day) → without_ends now ≡ without_ends then → (calls : List Call) → Each AllowedCall calls
    → without_ends (day_after_calls now calls) ≡ without_ends (day_after_calls_by offered_exactly then calls)
days_alike now then alike [] allowed = alike
days_alike now then alike (offering o ∷ cs) allowed =
    days_alike (offered now o).day (offered_exactly then o).day (offers_alike now then alike o allowed.0).1 cs allowed.1
days_alike now then alike (closing before after ∷ cs) allowed = days_alike now then alike cs allowed.1

pub recorded_law : RecordedLaw
recorded_law =
    record {
      offers = λ now then alike o allowed. offers_alike now then alike o allowed;
      days = λ day calls allowed. days_alike day day refl calls allowed;
      closings = λ now then alike. (
        λ before after. sym (same_closed now before after) ∙ ap (λ (day : Day). closed_recorded day before after) alike ∙ same_closed then before after,
        λ hour. ap (λ (day : Day). hour_energy day hour) alike,
        ap end_for_next_day alike,
      );
    }
