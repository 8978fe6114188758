-- What an offer answered before windows could reach over midnight, it answers now: the days of both terminals are the same but for the end, and no test of an
-- instant from midnight on tells the ends apart.
use mathlib.Core.Path.{◌≡◌, refl, sym, ap, ◌∙◌, subst}
use mathlib.Core.Bool.{Bool, true, false}
use mathlib.Core.List.{List, [], ◌∷◌}
use Prim.Native.Nat.{ℕ, zero, suc, ◌+◌, ◌≤◌, ◌<◌}
use native.Mathlib.Omega.{arith}
use borrow.Author.Tests.{le-ltb, ltb-false}
use lib.Dec.{ltb, lit<}
use lib.ListN.{length}
use Rattle.quantity.specs.Instants.{midnight, instant_at}
use Rattle.quantity.specs.Rules.{first_of, refused, outcome}
use Rattle.quantity.specs.declared.Instant.{Instant}
use Rattle.quantity.proofs.Refusing.{stops}
use Rattle.quantity.proofs.Tests.{test, neither}
use Rattle.clock.specs.Clock.{day_end, shortest_window, longest_window, count_wrong}
use Rattle.clock.specs.declared.Rate.{Rate}
use Rattle.clock.proofs.Inside.{within_day}
use Rattle.event.specs.Window.{peak_of}
use Rattle.event.specs.Stretch.{stretch_first}
use Rattle.event.specs.Event.{event_of}
use Rattle.event.specs.declared.Event.{Event}
use Rattle.event.proofs.Whole.{in_window, peak_inside}
use Rattle.ledger.specs.Day.{Opening, opened_day, period_of}
use Rattle.ledger.specs.declared.Day.{Day}
use Rattle.admission.specs.Checks.{Offering, day_checks, in_daytime}
use Rattle.admission.specs.declared.Recording.{Recording}
use Rattle.exposure.specs.Exposure.{EnergyRange, energy_range_by}
use Rattle.offering.specs.Offer.{entered_in, entered, offered_by, offered}
use Rattle.method.specs.Method.{counts_of}
use Rattle.closing.specs.Close.{Closed, close_rules, closing_of, classes_given, day_closed}
use Rattle.accuracy.specs.Tally.{Call, offering, closing}
use Rattle.accuracy.specs.Terminal.{day_after_calls, day_after_calls_by}
use Rattle.accuracy.specs.Midnight.{was_outside, checks_before, offered_before, opened_at_midnight, NoneNew, KeptLaw}

-- a day with another end
abbrev at_end : Day → Instant → Day
at_end d end =
    record {
      settings = d.settings;
      classes = d.classes;
      daytime = d.daytime;
      night = d.night;
      end = end;
      highest = d.highest;
      highest_by_class = d.highest_by_class;
    }

-- no test of an instant from midnight on tells two ends apart
abbrev Alike : (a b : Instant) → Type 0
Alike a b = (t : ℕ) → midnight ≤ t → ltb t a.0 ≡ ltb t b.0

-- the day now, and the day that was
record Kept (now then : Day) : Type 0 where
  end : Instant
  same : now ≡ at_end then end
  alike : Alike end then.end

same_period : (d : Day) (end : Instant) (p : Bool) → period_of (at_end d end) p ≡ period_of d p
same_period d end true = refl
same_period d end false = refl

-- an accepted event leaves the same day, since its own end takes the place of the other
same_entered : (d : Day) (end : Instant) (r : Recording) (v : Event) (S : EnergyRange) → entered (at_end d end) r v S ≡ entered d r v S
same_entered d end r v S = go (in_daytime d.settings r v)
  where
    go : (p : Bool) → entered_in p (at_end d end) r v S ≡ entered_in p d r v S
    go true = refl
    go false = refl

-- closing does not read the end
same_closed : (d : Day) (end : Instant) (before after : ℕ) → day_closed (at_end d end) before after ≡ day_closed d before after
same_closed d end before after = by_number (first_of (close_rules before after (counts_of d)))
  where
    closed_by : Day → ℕ → Closed
    closed_by day n = let answer = outcome n (closing_of day) in record { answer = answer; highest_by_class = classes_given day answer }

    by_number : (n : ℕ) → closed_by (at_end d end) n ≡ closed_by d n
    by_number zero = refl
    by_number (suc n) = refl

-- an offer now and then
module _ (d : Day) (end : Instant) (alike : Alike end d.end) (o : Offering) where
  abbrev rate : Rate
  rate = d.settings.rate

  abbrev start : ℕ
  start = o.recording.start.0

  abbrev n : ℕ
  n = length o.samples

  wrong_count : count_wrong rate n ≡ true → first_of (day_checks (at_end d end) o) ≡ 1
  wrong_count t = sym (stops 0 (day_checks (at_end d end) o) t)

  was_wrong_count : count_wrong rate n ≡ true → first_of (checks_before d o) ≡ 1
  was_wrong_count t = sym (stops 0 (checks_before d o) t)

  was_refused : count_wrong rate n ≡ false → was_outside d o ≡ true → first_of (checks_before d o) ≡ 2
  was_refused f t = sym (stops 1 (checks_before d o) (f, t))

  same_rules : count_wrong rate n ≡ false → was_outside d o ≡ false → day_checks (at_end d end) o ≡ checks_before d o
  same_rules f w =
      let count = ltb-false n shortest_window (neither (ltb n shortest_window) (ltb (longest_window rate) n) f).0 in
      let day = neither (ltb start midnight) (ltb (day_end rate) (start + n)) w in
      let from = ltb-false start midnight day.0 in
      let to = ltb-false (day_end rate) (start + n) day.1 in
      let places = peak_inside o.samples (omega arith) in
      let window = in_window o.samples in
      rw (
        w,
        within_day rate start (peak_of o.samples) n from to (omega (arith, places, window.end)),
        alike (start + stretch_first o.samples) (omega arith),
        same_period d end (in_daytime d.settings o.recording (event_of o.samples)),
      )

  same_number : was_outside d o ≡ false → first_of (day_checks (at_end d end) o) ≡ first_of (checks_before d o)
  same_number w =
      test (count_wrong rate n)
      (λ t. wrong_count t ∙ sym (was_wrong_count t))
      (λ f. ap first_of (same_rules f w))

  was_positive : was_outside d o ≡ true → 0 < first_of (checks_before d o)
  was_positive t = test (count_wrong rate n) (λ w. rw (was_wrong_count w) (lit< tt)) (λ f. rw (was_refused f t) (lit< tt))

  -- the days after it
  both_refused : (a b : ℕ) → 0 < a → 0 < b → Kept (offered_by a (at_end d end) o).day (offered_by b d o).day
  both_refused zero b p q = absurd (omega arith)
  both_refused (suc a) zero p q = absurd (omega arith)
  both_refused (suc a) (suc b) p q = record { end = end; same = refl; alike = alike }

  both_by : (k : ℕ) → Kept (offered_by k (at_end d end) o).day (offered_by k d o).day
  both_by zero =
      let v = event_of o.samples in
      record { end = instant_at (start + v.stretch.end); same = same_entered d end o.recording v (energy_range_by v o.recording.tolerance.0 o.samples); alike = λ t h. refl }
  both_by (suc k) = record { end = end; same = refl; alike = alike }

  kept_offer : (was_outside d o ≡ true → 0 < first_of (day_checks (at_end d end) o)) → Kept (offered (at_end d end) o).day (offered_before d o).day
  kept_offer none =
      test (was_outside d o)
      (λ t. both_refused (first_of (day_checks (at_end d end) o)) (first_of (checks_before d o)) (none t) (was_positive t))
      (λ f. subst (λ k. Kept (offered_by k (at_end d end) o).day (offered_before d o).day) (sym (same_number f)) (both_by (first_of (checks_before d o))))

  -- its answer
  answer_by : (k : ℕ) → (offered_by k (at_end d end) o).answer ≡ (offered_by k d o).answer
  answer_by zero = refl
  answer_by (suc k) = refl

  kept_answer : ((offered_before d o).answer ≡ refused 2 → ⊥) → (offered (at_end d end) o).answer ≡ (offered_before d o).answer
  kept_answer other =
      test (was_outside d o)
      (λ t. test (count_wrong rate n)
      (λ w. ap (λ k. (offered_by k (at_end d end) o).answer) (wrong_count w) ∙ sym (ap (λ k. (offered_by k d o).answer) (was_wrong_count w)))
      (λ f. absurd (other (ap (λ k. (offered_by k d o).answer) (was_refused f t)))))
      (λ f. ap (λ k. (offered_by k (at_end d end) o).answer) (same_number f) ∙ answer_by (first_of (checks_before d o)))

-- over lists of calls
kept_call : {now then : Day} → Kept now then → (o : Offering) → (was_outside now o ≡ true → 0 < first_of (day_checks now o))
    → Kept (offered now o).day (offered_before then o).day
kept_call {now} {then} k o =
    subst (λ (x : Day). (was_outside x o ≡ true → 0 < first_of (day_checks x o)) → Kept (offered x o).day (offered_before then o).day)
    (sym k.same)
    (kept_offer then k.end k.alike o)

kept_calls : {now then : Day} → Kept now then → (calls : List Call) → NoneNew now calls
    → Kept (day_after_calls now calls) (day_after_calls_by offered_before then calls)
kept_calls k [] none = k
kept_calls {now = now} {then = then} k (offering o ∷ cs) none = kept_calls {now = (offered now o).day} {then = (offered_before then o).day} (kept_call k o none.0) cs none.1
kept_calls k (closing before after ∷ cs) none = kept_calls k cs none

-- the fresh days: neither end is after midnight
kept_fresh : (o : Opening) → o.end ≤ midnight → Kept (opened_day o) (opened_at_midnight o)
kept_fresh o l =
    record {
      end = instant_at o.end;
      same = refl;
      alike = λ t h. le-ltb t o.end (omega arith) ∙ sym (le-ltb t midnight h);
    }

pub kept_law : KeptLaw
kept_law o opens l calls none =
    let k = kept_calls (kept_fresh o l) calls none in
    let then = day_after_calls_by offered_before (opened_at_midnight o) calls in (
      λ x other. ap (λ (day : Day). (offered day x).answer) k.same ∙ kept_answer then k.end k.alike x other,
      λ before after. ap (λ (day : Day). day_closed day before after) k.same ∙ same_closed then k.end before after,
    )
