-- Document 02, W-205: an offer belongs to the day of its peak, so no two days accept it; and days in a row, each opened with the end that the day before gives.
-- No instant is counted twice over all of them, so a fly-over at midnight is counted in one day alone.
use Rattle.std.specs.Prelude.{◌≡◌, Bool, List, [], ◌∷◌, ◌++◌, map, ℕ, ◌+◌, ◌≤◌}
use Rattle.quantity.specs.Instants.{instant_at}
use Rattle.quantity.specs.Rules.{first_of}
use Rattle.clock.specs.Clock.{day_ticks, earliest_start, latest_end}
use Rattle.clock.specs.declared.Rate.{Rate}
use Rattle.admission.specs.Checks.{Offering, offer_checks}
use Rattle.ledger.specs.Day.{end_for_next_day}
use Rattle.ledger.specs.declared.Day.{Day}
use Rattle.accuracy.specs.Tally.{Held, Tally}
use Rattle.accuracy.specs.Laws.{Apart, holders}
use Rattle.accuracy.specs.Terminal.{CalledDay, day_of, held_in, rate_in}

-- an offer to a day, as the day before counts its ticks
abbrev pub on_day_before : Rate → Offering → Offering
on_day_before rate o =
    let r = o.recording in
    record {
      recording =
          record {
            start = instant_at (day_ticks rate + r.start.0);
            class = r.class;
            wind = r.wind;
            wet = r.wet;
            background = r.background;
            tolerance = r.tolerance;
          };
      samples = o.samples;
    }

-- whatever ends and counts the two days have, one of them refuses it
abbrev pub OneDayLaw : Type 0
OneDayLaw =
    (rate : Rate) (o : Offering) (unbooked unbooked_before : Bool) (end end_before : ℕ) (used used_before : Bool)
    → first_of (offer_checks rate o unbooked end used) ≡ 0
    → first_of (offer_checks rate (on_day_before rate o) unbooked_before end_before used_before) ≡ 0
    → ⊥

-- the end to open the next day with: that of the last stretch that the tally holds, counted from the next midnight, or 600 s before it if there is none
abbrev pub IsEndAfter : Rate → List Held → (end : ℕ) → Type 0
IsEndAfter rate [] end = end ≡ earliest_start rate
IsEndAfter rate (h ∷ hs) end = end + day_ticks rate ≡ h.to

abbrev pub GivesEnd : Tally → Day → Type 0
GivesEnd t day = IsEndAfter t.settings.rate t.stretches (end_for_next_day day).0

-- each day is opened with the end that the day before gives, at the same rate
abbrev pub InRow : CalledDay → List CalledDay → Type 0
InRow d [] = Unit
InRow d (n ∷ ns) = (n.opening.end ≡ (end_for_next_day (day_of d)).0) × (rate_in n ≡ rate_in d) × InRow n ns

-- a stretch so many ticks later
abbrev pub later : ℕ → Held → Held
later ticks h =
    record {
      class = h.class;
      daytime = h.daytime;
      peak = ticks + h.peak;
      from = ticks + h.from;
      to = ticks + h.to;
      tolerance = h.tolerance;
      levels = h.levels;
    }

-- the stretches of all the days, the latest first, as instants of the first day
abbrev pub held_in_row : CalledDay → List CalledDay → List Held
held_in_row d [] = held_in d
held_in_row d (n ∷ ns) = map (later (day_ticks (rate_in d))) (held_in_row n ns) ++ held_in d

-- by which they all have ended
abbrev pub end_of_row : CalledDay → List CalledDay → ℕ
end_of_row d [] = latest_end (rate_in d)
end_of_row d (n ∷ ns) = day_ticks (rate_in d) + end_of_row n ns

-- they lie apart, and none of them holds an instant that another holds
abbrev pub RowLaw : Type 0
RowLaw =
    (d : CalledDay) (ds : List CalledDay) → InRow d ds
    → Apart (end_of_row d ds) (held_in_row d ds) × ((instant : ℕ) → holders instant (held_in_row d ds) ≤ 1)
