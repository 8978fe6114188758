-- The words hold the day of the list of calls, and give the end and the energies of the hours that it gives.
use Rattle.std.specs.Prelude as std
use Rattle.std.specs.Prelude.{Some, None}
use mathlib.Core.Path.{◌≡◌, refl, ap, ◌∙◌}
use mathlib.Core.Bool.{Bool, true, false}
use mathlib.Core.List.{List, [], ◌∷◌, map}
use Prim.Native.Nat.{ℕ, zero, suc, ◌^◌, ◌≤◌, ◌<◌}
use native.Mathlib.Nat.{mod-lt}
use native.Mathlib.Omega.{arith}
use lib.Dec.{ltb, lit<}
use lib.ListN.{get_or}
use Rattle.quantity.specs.Rules.{refused, given, first_of, outcome, follow}
use Rattle.quantity.specs.Lent.{leaves}
use Rattle.quantity.specs.Limits.{highest_sample}
use Rattle.quantity.specs.declared.Bound.{Bound}
use Rattle.quantity.specs.declared.Bound.TheVariants.{Lowest, Highest}
use Rattle.quantity.specs.declared.Level.{Level}
use Rattle.quantity.specs.Lists.{Each}
use Rattle.quantity.proofs.Lists.{each_at, each_set, each_same}
use Rattle.quantity.proofs.Instants.{ticks_back}
use Rattle.quantity.proofs.Tests.{test}
use Rattle.limbs.specs.Value.{value, base, limbs_of}
use Rattle.limbs.proofs.Digits.{value_limbs_of}
use Rattle.event.specs.Event.{event_of}
use Rattle.exposure.specs.Exposure.{EnergyRange, energy_range_by}
use Rattle.event.specs.Window.{highest}
use Rattle.ledger.specs.Book.{most_classes}
use Rattle.ledger.specs.Day.{Answered, no_day, Opening, open_rules, opened_day, period_of, with_period, energy_in, energy_at_bound, hour_energy, end_for_next_day}
use Rattle.admission.specs.Checks.{Offering, day_checks, in_daytime}
use Rattle.offering.specs.Offer.{with_event, in_hour, raised, raised_in_class, admitted, offered_by, offered}
use Rattle.ledger.specs.declared.Day.{Day}
use Rattle.ledger.specs.declared.Period.{Period}
use Rattle.accuracy.specs.Terminal.{day_after, day_after_calls}
use Rattle.accuracy.proofs.Windows.{admits}
use Rattle.accuracy.proofs.Hours.{hour_law}
use Rattle.day_words.specs.Words.{day_words, day_from, DayFits}
use Rattle.day_words.proofs.Inverse.{inverse}
use Rattle.day_words.proofs.Reached.{opened_fits, offered_fits}
use Rattle.c_interface.specs.Calls.{open_leaves}
use Rattle.c_interface.specs.Numbers.{level_number}
use Rattle.c_interface.proofs.Written.{energy_told}
use Rattle.c_accuracy.specs.Calls.{CCall, offer, close, call_of, lent_to, words_after, words_after_calls, words_of}
use Rattle.c_accuracy.specs.Demand.{HeldLaw, EndLaw, CHourLaw}

-- what is known of a day that calls reach: it fits into its words, no Lmax is above the limit, and what is kept in four limbs is below 2 ^ 128
abbrev pub Low : std.Option Level → Type 0
Low (Some l) = l.0 ≤ highest_sample
Low None = Unit

abbrev pub LowClass : std.Option Level → Type 0
LowClass c = Low c

abbrev pub AllLow : List (std.Option Level) → Type 0
AllLow = Each LowClass

pub record Reached (d : Day) : Type 0 where
  pub fits : DayFits d
  pub highest : Low d.highest
  pub by_class : AllLow d.highest_by_class
  pub ends : (b : Bound) (p : Bool) → energy_at_bound b (period_of d p) < base ^ 4

pub limbs_below : (n : ℕ) → value (limbs_of 4 n) < base ^ 4
limbs_below n = rw value_limbs_of (mod-lt _ (lit< tt))

-- an opening by the number of the refusal, 0 where there is none
abbrev opened_by : Opening → ℕ → Answered Unit
opened_by o n =
    follow (outcome n (opened_day o)) (λ k. record { day = no_day; answer = refused k }) (λ d. record { day = d; answer = given tt })

-- an opening that is not refused leaves the words of the fresh day
module _ (day : List ℕ) (o : Opening) where
  pub opens : (open_leaves day o).answer ≡ 0
      → (first_of (open_rules o) ≡ 0) × ((open_leaves day o).lent ≡ day_words (opened_day o)) × DayFits (opened_day o)
  opens e = go (first_of (open_rules o)) refl e (opened_fits o)
    where
      go : (n : ℕ) → first_of (open_rules o) ≡ n → (leaves day (opened_by o n).answer (λ _. day_words (opened_by o n).day)).answer ≡ 0 → DayFits (opened_by o n).day
          → (first_of (open_rules o) ≡ 0) × ((leaves day (opened_by o n).answer (λ _. day_words (opened_by o n).day)).lent ≡ day_words (opened_day o)) × DayFits (opened_day o)
      go zero h e f = (h, refl, f)
      go (suc n) h e f = absurd (omega arith)

fresh_ends : (o : Opening) (b : Bound) (p : Bool) → energy_at_bound b (period_of (opened_day o) p) < base ^ 4
unfolding value
fresh_ends o Lowest true = lit< tt
fresh_ends o Lowest false = lit< tt
fresh_ends o Highest true = lit< tt
fresh_ends o Highest false = lit< tt

fresh_reached : (o : Opening) → DayFits (opened_day o) → Reached (opened_day o)
fresh_reached o f = record { fits = f; highest = tt; by_class = each_same LowClass most_classes None tt; ends = fresh_ends o }

-- so is the day after an offer
raised_low : (h : std.Option Level) (l : Level) → Low h → l.0 ≤ highest_sample → Low (raised h l)
raised_low None l p q = q
raised_low (Some h) l p q = test (ltb h.0 l.0) (λ t. rw t q) (λ t. rw t p)

raised_all_low : (cs : List (std.Option Level)) (k : ℕ) (l : Level) → AllLow cs → l.0 ≤ highest_sample → AllLow (raised_in_class cs k l)
raised_all_low cs k l p q =
    each_set LowClass cs k _ p (raised_low (get_or cs k None) l (each_at LowClass cs k None p tt) q)

same_highest : (d : Day) (b : Bool) (p : Period) → (with_period d b p).highest ≡ d.highest
same_highest d true p = refl
same_highest d false p = refl

-- the sums at both ends after an event: those of its own period are raised in four limbs, the others stay
event_below : (b : Bound) (p : Period) (class hour : ℕ) (S : EnergyRange) → energy_at_bound b (with_event p class hour S) < base ^ 4
event_below Lowest p class hour S = limbs_below _
event_below Highest p class hour S = limbs_below _

ends_below : (d : Day) (own : Bool) (after : Period) (b : Bound) → energy_at_bound b after < base ^ 4 → ((p : Bool) → energy_at_bound b (period_of d p) < base ^ 4)
    → (p : Bool) → energy_at_bound b (period_of (with_period d own after) p) < base ^ 4
ends_below d true after b h g true = h
ends_below d true after b h g false = g false
ends_below d false after b h g true = g true
ends_below d false after b h g false = h

same_by_class : (d : Day) (b : Bool) (p : Period) → (with_period d b p).highest_by_class ≡ d.highest_by_class
same_by_class d true p = refl
same_by_class d false p = refl

pub offered_reached : (d : Day) (o : Offering) → Reached d → Reached (offered d o).day
offered_reached d o r = go (first_of (day_checks d o)) refl (offered_fits d o r.fits)
  where
    by_day : Bool
    by_day = in_daytime d.settings o.recording (event_of o.samples)

    class : ℕ
    class = o.recording.class

    hour : ℕ
    hour = in_hour d o.recording (event_of o.samples)

    energy : EnergyRange
    energy = energy_range_by (event_of o.samples) o.recording.tolerance.0 o.samples

    after : Period
    after = with_event (period_of d by_day) class hour energy

    ends_after : (b : Bound) (p : Bool) → energy_at_bound b (period_of (with_period d by_day after) p) < base ^ 4
    ends_after b = ends_below d by_day after b (event_below b (period_of d by_day) class hour energy) (r.ends b)

    ends_entered : (b : Bound) (p : Bool) → energy_at_bound b (period_of (admitted d o).day p) < base ^ 4
    ends_entered b true = ends_after b true
    ends_entered b false = ends_after b false

    entered_low : highest o.samples ≤ highest_sample → Low (admitted d o).day.highest
    entered_low h = raised_low (with_period d by_day after).highest (event_of o.samples).lmax (rw (same_highest d by_day after) r.highest) h

    classes_low : highest o.samples ≤ highest_sample → AllLow (admitted d o).day.highest_by_class
    classes_low h =
        raised_all_low (with_period d by_day after).highest_by_class o.recording.class (event_of o.samples).lmax
        (rw (same_by_class d by_day after) r.by_class)
        h

    go : (n : ℕ) → first_of (day_checks d o) ≡ n → DayFits (offered_by n d o).day → Reached (offered_by n d o).day
    go zero h f =
        record {
          fits = f;
          highest = entered_low (admits d.settings.rate o _ _ _ h).level;
          by_class = classes_low (admits d.settings.rate o _ _ _ h).level;
          ends = ends_entered;
        }
    go (suc n) h f = r

pub after_reached : (d : Day) (c : CCall) → Reached d → Reached (day_after d (call_of c))
after_reached d (offer o exposure lmax) r = offered_reached d o r
after_reached d (close before after lent) r = r

-- the words after a call hold the day after it
step : (words : List ℕ) (c : CCall) → Reached (day_from words) → day_from (words_after words c) ≡ day_after (day_from words) (call_of c)
step words (close before after lent) r = refl
step words (offer o exposure lmax) r = go (first_of (day_checks (day_from words) o)) (offered_fits (day_from words) o r.fits)
  where
    go : (n : ℕ) → DayFits (offered_by n (day_from words) o).day
        → day_from (leaves (lent_to words exposure lmax) (offered_by n (day_from words) o).answer (λ a. record { day = day_words (offered_by n (day_from words) o).day; exposure = level_number a.exposure; lmax = a.lmax })).lent.day
        ≡ (offered_by n (day_from words) o).day
    go zero f = inverse (admitted (day_from words) o).day f
    go (suc n) f = refl

-- and so after a list of calls
module _ where
  after_calls : (words : List ℕ) (cs : List CCall) → Reached (day_from words)
      → (day_from (words_after_calls words cs) ≡ day_after_calls (day_from words) (map call_of cs)) × Reached (day_from (words_after_calls words cs))
  after_calls words [] r = (refl, r)
  after_calls words (c ∷ cs) r =
      let s = step words c r in
      let rest = after_calls (words_after words c) cs (rw s (after_reached (day_from words) c r)) in
      (rest.0 ∙ ap (λ (d : Day). day_after_calls d (map call_of cs)) s, rest.1)

-- the whole: settings and book open, the words hold the day of the list, and it is such a day
pub whole : (day : List ℕ) (o : Opening) → (open_leaves day o).answer ≡ 0 → (calls : List CCall)
    → (first_of (open_rules o) ≡ 0)
    × (day_from (words_of day o calls) ≡ day_after_calls (opened_day o) (map call_of calls))
    × Reached (day_from (words_of day o calls))
whole day o e calls =
    let first = opens day o e in
    let fresh = inverse (opened_day o) first.2 in
    let a = after_calls (day_words (opened_day o)) calls (rw fresh (fresh_reached o first.2)) in
    (first.0, rw first.1 (rw fresh at a.0), rw first.1 a.1)

pub held : HeldLaw
held day o e calls = (whole day o e calls).1

-- the energy of a period is kept in four limbs, on any day
pub energy_below : (p : Period) → energy_in p < base ^ 4
energy_below p = limbs_below _

-- the end to open the next day with
pub end_law : EndLaw
end_law day o e calls =
    ticks_back (end_for_next_day (day_from (words_of day o calls))).0 ∙ ap (λ (d : Day). (end_for_next_day d).0) (held day o e calls)

-- the energy of an hour
pub c_hour_law : CHourLaw
c_hour_law day o e calls hour =
    let w = whole day o e calls in
    energy_told (value (hour_energy (day_from (words_of day o calls)) hour))
    ∙ ap (λ (d : Day). value (hour_energy d hour)) w.1
    ∙ hour_law o w.0 (map call_of calls) hour
