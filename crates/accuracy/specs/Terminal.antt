-- The terminal over lists of calls: the day that a list leaves, by the definition that the contract of an offer cites.
use Rattle.std.specs.Prelude.{◌≡◌, List, [], ◌∷◌}
use Rattle.quantity.specs.Rules.{first_of}
use Rattle.clock.specs.declared.Rate.{Rate}
use Rattle.admission.specs.Checks.{Offering}
use Rattle.offering.specs.Offer.{Accepted, offered}
use Rattle.ledger.specs.Day.{Opening, open_rules, opened_settings, opened_day, Answered}
use Rattle.ledger.specs.declared.Day.{Day}
use Rattle.accuracy.specs.Tally.{Call, offering, closing, Held, Tally, started, tally_of}

-- the day after a call, by what comes of an offer; closing reads the day and changes nothing
abbrev pub day_after_by : (Day → Offering → Answered Accepted) → Day → Call → Day
day_after_by comes day (offering o) = (comes day o).day
day_after_by comes day (closing before after) = day

abbrev pub day_after_calls_by : (Day → Offering → Answered Accepted) → Day → List Call → Day
day_after_calls_by comes day [] = day
day_after_calls_by comes day (c ∷ cs) = day_after_calls_by comes (day_after_by comes day c) cs

abbrev pub day_after : Day → Call → Day
day_after = day_after_by offered

abbrev pub day_after_calls : Day → List Call → Day
day_after_calls = day_after_calls_by offered

-- a day that is opened, and its list of calls
pub record CalledDay : Type 0 where
  pub opening : Opening
  pub opens : first_of (open_rules opening) ≡ 0
  pub calls : List Call

abbrev pub day_of : CalledDay → Day
day_of d = day_after_calls (opened_day d.opening) d.calls

abbrev pub tally_in : CalledDay → Tally
tally_in d = tally_of (started d.opening) d.calls

-- the stretches that its tally holds, and the rate of its terminal
abbrev pub held_in : CalledDay → List Held
held_in d = (tally_in d).stretches

abbrev pub rate_in : CalledDay → Rate
rate_in d = (opened_settings d.opening).rate
