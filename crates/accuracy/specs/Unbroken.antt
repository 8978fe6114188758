-- Document 02, W-209: 'On the same day state, windows without such dips answer as they did.' Here stand the stretch as document 01 has it, the unbroken run of
-- samples at least Lmax - 1000 around the peak, the terminal that answers by it, and what is said of the answers of both.
use Rattle.std.specs.Prelude.{◌≡◌, Bool, true, not, ◌↔◌, List, [], ◌∷◌, ℕ, ◌+◌, ◌≤◌, ◌<◌, get_or, take, drop}
use Rattle.quantity.specs.Rules.{first_of, Outcome, refused, given}
use Rattle.level.specs.Level.{NoHigher}
use Rattle.event.specs.Window.{highest, first_place, peak_of}
use Rattle.event.specs.Stretch.{near, end_place, stretch_first, stretch_end}
use Rattle.event.specs.Event.{event_of}
use Rattle.event.specs.declared.Event.{Event}
use Rattle.ledger.specs.Day.{Answered}
use Rattle.ledger.specs.declared.Day.{Day}
use Rattle.admission.specs.Checks.{Offering, day_checks_by}
use Rattle.offering.specs.Offer.{Accepted, admitted_by, unless_refused, offered}
use Rattle.accuracy.specs.Tally.{Call, offering, closing}
use Rattle.accuracy.specs.Terminal.{day_after_calls, day_after_calls_by}

-- document 01, 'Event': the unbroken run around the peak. It begins behind the last sample before the peak that is less than Lmax - 1000, and has ended at the
-- first one from the peak on that is.
abbrev pub far : ℕ → ℕ → Bool
far level c = not (near level c)

abbrev pub run_first : List ℕ → ℕ
run_first s = end_place (far (highest s)) (take (peak_of s) s)

abbrev pub run_end : List ℕ → ℕ
run_end s = peak_of s + first_place (far (highest s)) (drop (peak_of s) s)

abbrev pub unbroken_event : List ℕ → Event
unbroken_event s =
    record {
      lmax = record { 0 = highest s };
      peak = peak_of s;
      stretch = record { first = run_first s; end = run_end s };
    }

-- the terminal of before: rules, S, LAE and the day after an offer by that event
abbrev pub offered_unbroken : Day → Offering → Answered Accepted
offered_unbroken day o = let v = unbroken_event o.samples in unless_refused (first_of (day_checks_by v day o)) day (admitted_by v day o)

-- a window without dips: all samples between the first and the last that are at least Lmax - 1000 are so
abbrev pub NoDips : List ℕ → Type 0
NoDips s = (k : ℕ) → stretch_first s ≤ k → k < stretch_end s → near (highest s) (get_or s k 0) ≡ true

-- each window of a list of calls
abbrev pub NoneDips : List Call → Type 0
NoneDips [] = Unit
NoneDips (offering o ∷ cs) = NoDips o.samples × NoneDips cs
NoneDips (closing before after ∷ cs) = NoneDips cs

-- The event is that of before for the windows without dips, and for no others; so on any day such a window gives the same answer and leaves the same day, and a
-- list of calls with no other windows leaves the same day, on which every closing is the same.
pub record UnbrokenLaw : Type 0 where
  pub same_event : (s : List ℕ) → NoDips s ↔ (event_of s ≡ unbroken_event s)
  pub same_offer : (day : Day) (o : Offering) → NoDips o.samples → offered day o ≡ offered_unbroken day o
  pub same_day : (day : Day) (calls : List Call) → NoneDips calls → day_after_calls day calls ≡ day_after_calls_by offered_unbroken day calls

-- Beyond the request: on any day what is accepted now was accepted then, with the same Lmax and an exposure level that was not higher
abbrev pub OnlyRaised : (now then : Outcome Accepted) → Type 0
OnlyRaised (given a) (given b) = (a.lmax ≡ b.lmax) × NoHigher b.exposure a.exposure
OnlyRaised (given a) (refused n) = ⊥
OnlyRaised (refused n) then = Unit

abbrev pub RaisedLaw : Type 0
RaisedLaw = (day : Day) (o : Offering) → OnlyRaised (offered day o).answer (offered_unbroken day o).answer
