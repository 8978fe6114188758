-- Document 02, W-205: 'An offer that had another answer than 2 keeps it when that end is 0 or less and no offer newly allowed was accepted before it.' Here
-- stand rule 2 as document 01 has it, the terminal that answers by it, and what is said of the answers of both.
use Rattle.std.specs.Prelude.{◌≡◌, Bool, true, ◌||◌, List, [], ◌∷◌, ℕ, ◌+◌, ◌≤◌, ◌<◌, ltb, length}
use Rattle.quantity.specs.Instants.{midnight}
use Rattle.quantity.specs.Rules.{Rule, first_of, refused}
use Rattle.clock.specs.Clock.{day_end}
use Rattle.clock.specs.declared.Rate.{Rate}
use Rattle.ledger.specs.Day.{Opening, opening_of, open_rules, opened_day, Answered}
use Rattle.ledger.specs.declared.Day.{Day}
use Rattle.admission.specs.Checks.{Offering, day_checks}
use Rattle.offering.specs.Offer.{Accepted, offered_by, offered}
use Rattle.closing.specs.Close.{day_closed}
use Rattle.accuracy.specs.Tally.{Call, offering, closing}
use Rattle.accuracy.specs.Terminal.{day_after, day_after_calls, day_after_calls_by}

-- document 01, 'Refused calls' 2: the window runs past the day's end; a start before midnight could not be given at all
abbrev pub is_outside_before : Rate → (start n : ℕ) → Bool
is_outside_before rate start n = ltb start midnight || ltb (day_end rate) (start + n)

abbrev pub was_outside : Day → Offering → Bool
was_outside day o = is_outside_before day.settings.rate o.recording.start.0 (length o.samples)

-- the rules of an offer with that test for 2, and all others as they are
abbrev pub with_rule_two : Bool → List Rule → List Rule
with_rule_two test [] = []
with_rule_two test (one ∷ []) = one ∷ []
with_rule_two test (one ∷ two ∷ others) = one ∷ record { number = 2; refuses = test } ∷ others

abbrev pub checks_before : Day → Offering → List Rule
checks_before day o = with_rule_two (was_outside day o) (day_checks day o)

-- the terminal that answers by it; its fresh day has the end 0
abbrev pub offered_before : Day → Offering → Answered Accepted
offered_before day o = offered_by (first_of (checks_before day o)) day o

abbrev pub opened_at_midnight : Opening → Day
opened_at_midnight o = opened_day (opening_of o.rate o.first o.last midnight o.daytime o.night)

-- no offer newly allowed is accepted: each that was refused by 2 is refused
abbrev pub NoneNew : Day → List Call → Type 0
NoneNew day [] = Unit
NoneNew day (offering o ∷ cs) = (was_outside day o ≡ true → 0 < first_of (day_checks day o)) × NoneNew (day_after day (offering o)) cs
NoneNew day (closing before after ∷ cs) = NoneNew day cs

-- for every opening with an end of 0 or less, and every list of calls without such an offer: the next offer keeps the answer that it had, where that is not
-- 2, and the next closing keeps the one that it had
abbrev pub KeptLaw : Type 0
KeptLaw =
    (o : Opening) → first_of (open_rules o) ≡ 0 → o.end ≤ midnight → (calls : List Call) → NoneNew (opened_day o) calls
    → let now = day_after_calls (opened_day o) calls in
    let then = day_after_calls_by offered_before (opened_at_midnight o) calls in
    ((x : Offering) → ((offered_before then x).answer ≡ refused 2 → ⊥) → (offered now x).answer ≡ (offered_before then x).answer)
    × ((before after : ℕ) → day_closed now before after ≡ day_closed then before after)
