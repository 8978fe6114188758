-- Demand 3 through C (document 01, 'Powers', 'Day', 'Means'; document 02, W-205, W-208, W-211): the claims of the crate `accuracy`, of the numbers that a caller finds.
use Rattle.std.specs.Prelude.{◌≡◌, List, [], ◌∷◌, map, ℕ, ℤ, get_or}
use Rattle.std.proofs.Math.Option.{Option}
use Rattle.quantity.specs.Answers.{Reading}
use Rattle.quantity.specs.Instants.{ticks_of}
use Rattle.quantity.specs.Lent.{Left}
use Rattle.quantity.specs.Lists.{Each}
use Rattle.quantity.specs.Rules.{Outcome, given, outcome}
use Rattle.ledger.specs.Day.{Opening, opened_day, end_for_next_day}
use Rattle.offering.specs.Offer.{Accepted}
use Rattle.closing.specs.Close.{Closing}
use Rattle.accuracy.specs.Tally.{Tally, started, tally_of}
use Rattle.accuracy.specs.Terminal.{day_after_calls}
use Rattle.accuracy.specs.Demand.{OfferDemanded, CloseDemanded}
use Rattle.accuracy.specs.Hours.{of_hour, held_energy}
use Rattle.accuracy.specs.Tolerance.{Spread}
use Rattle.accuracy.specs.Means.{ClosedDay, Measured, MeanDemanded}
use Rattle.day_words.specs.Words.{day_from}
use Rattle.c_interface.specs.Numbers.{level_from, highest_from, class_levels_from, energy_from, record_level, record_method}
use Rattle.c_interface.specs.Calls.{OfferLent, CloseLent, open_leaves, offer_leaves, end_given, energy_given, close_leaves, week_leaves, year_leaves}
use Rattle.c_accuracy.specs.Calls.{CCall, offer, close, call_of, lent_to, words_of}

-- the outcome that a caller reads: the number of the refusal, or what the numbers hold that were lent
abbrev pub offer_seen : Left OfferLent → Outcome Accepted
offer_seen l = outcome l.answer (record { exposure = level_from l.lent.exposure; lmax = l.lent.lmax })

abbrev pub close_seen : Left CloseLent → Outcome Closing
close_seen l =
    outcome l.answer
    (record {
      ldn = record_level l.lent.day_record;
      lowest_ldn = level_from l.lent.lowest_ldn;
      highest_ldn = level_from l.lent.highest_ldn;
      method = record_method l.lent.day_record;
      day_events = get_or l.lent.counts 0 0;
      night_events = get_or l.lent.counts 1 0;
      highest = highest_from (get_or l.lent.counts 2 0);
    })

abbrev pub classes_seen : Left CloseLent → List (Option ℕ)
classes_seen l = class_levels_from l.lent.highest_by_class

abbrev pub mean_seen : Left ℤ → Outcome Reading
mean_seen l = outcome l.answer (level_from l.lent)

-- for every words, all settings and every book that open, and every list of calls: the words hold the day of the list
abbrev pub HeldLaw : Type 0
HeldLaw =
    (day : List ℕ) (o : Opening) → (open_leaves day o).answer ≡ 0 → (calls : List CCall)
    → day_from (words_of day o calls) ≡ day_after_calls (opened_day o) (map call_of calls)

-- document 02, W-205: the end to open the next day with, as C gives it, stands for the instant that the day of the list gives
abbrev pub EndLaw : Type 0
EndLaw =
    (day : List ℕ) (o : Opening) → (open_leaves day o).answer ≡ 0 → (calls : List CCall)
    → ticks_of (end_given (words_of day o calls)) ≡ (end_for_next_day (day_after_calls (opened_day o) (map call_of calls))).0

-- document 02, W-208: the energy of an hour, as C gives it in two halves, is the sum of e over the stretches of the tally whose peak lies in that hour, for every
-- number of an hour
abbrev pub CHourLaw : Type 0
CHourLaw =
    (day : List ℕ) (o : Opening) → (open_leaves day o).answer ≡ 0 → (calls : List CCall) (hour : ℕ)
    → let t = tally_of (started o) (map call_of calls) in
    energy_from (energy_given (words_of day o calls) hour) ≡ held_energy (of_hour t.settings.rate hour t.stretches)

-- document 02, W-211: the lowest and the highest Ldn, as C gives them: every day whose samples lie in their ranges has its Ldn between them
abbrev pub CSpreadLaw : Type 0
CSpreadLaw =
    (day : List ℕ) (o : Opening) → (open_leaves day o).answer ≡ 0 → (calls : List CCall) (before after : ℕ) (lent : CloseLent) (x : Closing)
    → close_seen (close_leaves lent (words_of day o calls) before after) ≡ given x
    → Spread (tally_of (started o) (map call_of calls)) x

-- and for every K and one call more, what the caller reads stands in the demanded relation to the plain tally of the list
abbrev pub CDemanded : ℕ → Tally → List ℕ → CCall → Type 0
CDemanded K t day (offer o exposure lmax) = OfferDemanded K t o (offer_seen (offer_leaves (lent_to day exposure lmax) o))
CDemanded K t day (close before after lent) =
    let l = close_leaves lent day before after in
    CloseDemanded K t before after (close_seen l) (classes_seen l)

unfoldable pub CClaim : Type 0
CClaim =
    (K : ℕ) (day : List ℕ) (o : Opening) → (open_leaves day o).answer ≡ 0 → (calls : List CCall) (call : CCall)
    → CDemanded K (tally_of (started o) (map call_of calls)) (words_of day o calls) call

-- a record that calls through C wrote: an opening and calls with the arguments of the day, and a closing that is not refused
pub record Wrote (d : ClosedDay) (written : ℕ) : Type 0 where
  pub day : List ℕ
  pub opens : (open_leaves day d.day.opening).answer ≡ 0
  pub calls : List CCall
  pub same : map call_of calls ≡ d.day.calls
  pub lent : CloseLent
  pub is : (close_leaves lent (words_of day d.day.opening calls) d.before d.after).lent.day_record ≡ written

abbrev pub AllWrote : List ClosedDay → List ℕ → Type 0
AllWrote [] [] = Unit
AllWrote [] (n ∷ ns) = ⊥
AllWrote (d ∷ ds) [] = ⊥
AllWrote (d ∷ ds) (n ∷ ns) = Wrote d n × AllWrote ds ns

-- the mean of such records, of a week and of a year
unfoldable pub CMeanClaim : Type 0
CMeanClaim =
    (K : ℕ) (days : List ClosedDay) → Each Measured days → (records : List ℕ) → AllWrote days records → (level : ℤ)
    → MeanDemanded 7 7 K days (mean_seen (week_leaves level records))
    × MeanDemanded 1 366 K days (mean_seen (year_leaves level records))

-- Demand 3 whole, through C
unfoldable pub CDemand3 : Type 0
CDemand3 = CClaim × CMeanClaim
