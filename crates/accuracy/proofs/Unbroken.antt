-- A window without dips has the event that it had by the unbroken run, and only such a window has; so its offer gives what it gave.
use mathlib.Core.Path.{◌≡◌, refl, ap, ◌∙◌}
use mathlib.Core.Bool.{true, not}
use mathlib.Core.List.{List, [], ◌∷◌}
use Prim.Native.Nat.{ℕ, ◌+◌, ◌-◌, ◌≤◌, ◌<◌}
use native.Mathlib.Omega.{arith}
use borrow.Author.Tests.{leb-true, leb-false, not-false}
use lib.Dec.{leb}
use lib.ListN.{length, get_or, take, drop, length-drop}
use lib.Seq.{length-take-le, get_or-take, get_or-drop}
use Rattle.quantity.specs.Rules.{first_of}
use Rattle.quantity.proofs.Tests.{test}
use Rattle.event.specs.Window.{highest, first_place, peak_of}
use Rattle.event.specs.Stretch.{near, stretch_first, stretch_end}
use Rattle.event.specs.Event.{event_of}
use Rattle.event.specs.declared.Event.{Event}
use Rattle.event.proofs.Places.{first_place_lem, end_place_lem, the_first, the_end, peaks}
use Rattle.event.proofs.Whole.{peak_inside}
use Rattle.ledger.specs.declared.Day.{Day}
use Rattle.admission.specs.Checks.{Offering, day_checks_by}
use Rattle.offering.specs.Offer.{admitted_by, unless_refused, offered}
use Rattle.accuracy.specs.Tally.{Call, offering, closing}
use Rattle.accuracy.specs.Terminal.{day_after_calls, day_after_calls_by}
use Rattle.accuracy.specs.Unbroken.{far, run_first, run_end, unbroken_event, offered_unbroken, NoDips, NoneDips, UnbrokenLaw}

-- a window with a sample
module _ (s : List ℕ) (some : 0 < length s) where
  abbrev level : ℕ
  level = highest s

  abbrev peak : ℕ
  peak = peak_of s

  inside : peak < length s
  inside = (peaks s some).inside

  before_peak : length (take peak s) ≡ peak
  before_peak = length-take-le peak s (omega (arith, inside))

  run_first_lem : NoDips s → stretch_first s ≡ run_first s
  run_first_lem none =
      let first = first_place_lem (near level) s in
      let places = peak_inside s some in
      let n = before_peak in
      the_end {passes = far level} {s = take peak s} (record {
        from =
            record {
              within = omega (arith, places, n);
              after = λ k l h.
                  rw (get_or-take peak s k 0 (omega (arith, n))) (ap not (none k l (omega (arith, places, n))));
            };
        last = λ h. rw (get_or-take peak s (stretch_first s - 1) 0 (omega (arith, places))) (ap not (first.from.before (stretch_first s - 1) (omega arith)));
      })

  run_end_lem : NoDips s → stretch_end s ≡ run_end s
  run_end_lem none =
      let end = end_place_lem (near level) s in
      let places = peak_inside s some in
      let n = length-drop peak s in
      let there : peak + (stretch_end s - peak) ≡ stretch_end s = omega (arith, places) in
      let ends : stretch_end s - peak ≡ first_place (far level) (drop peak s) =
      the_first {passes = far level} {s = drop peak s} (record {
        from =
            record {
              within = omega (arith, end.from.within, n);
              before = λ k h. rw (get_or-drop peak s k 0) (ap not (none (peak + k) (omega (arith, places)) (omega arith)));
            };
        here = λ h. rw (get_or-drop peak s (stretch_end s - peak) 0, there) (ap not (end.from.after (stretch_end s) (omega arith) (omega (arith, n, places))));
      }) in
      omega (arith, ends, places)

  -- each sample of the run is near the highest
  pub run_near : (k : ℕ) → run_first s ≤ k → k < run_end s → near level (get_or s k 0) ≡ true
  run_near k l h =
      test (leb peak k)
      (λ t. let after = leb-true peak k t in
      let e : peak + (k - peak) ≡ k = omega arith in
      not-false _ (rw (get_or-drop peak s (k - peak) 0, e) at ((first_place_lem (far level) (drop peak s)).from.before (k - peak) (omega arith))))
      (λ f. let before = leb-false peak k f in
      not-false _ (rw (get_or-take peak s k 0 before) at ((end_place_lem (far level) (take peak s)).from.after k l (omega (arith, before_peak)))))

  pub run_from : run_first s ≤ peak
  run_from = omega (arith, before_peak)

  pub run_within : run_end s ≤ length s
  run_within = omega (arith, (first_place_lem (far level) (drop peak s)).from.within, length-drop peak s, inside)

same_event_lem : (s : List ℕ) → NoDips s → event_of s ≡ unbroken_event s
same_event_lem [] none = refl
same_event_lem (c ∷ cs) none = rw (run_first_lem (c ∷ cs) (omega arith) none, run_end_lem (c ∷ cs) (omega arith) none)

only_event : (s : List ℕ) → event_of s ≡ unbroken_event s → NoDips s
only_event [] same = λ k l h. absurd (omega arith)
only_event (c ∷ cs) same =
    let first = ap (λ (v : Event). v.stretch.first) same in
    let end = ap (λ (v : Event). v.stretch.end) same in
    λ k l h. run_near (c ∷ cs) (omega arith) k (omega (arith, first)) (omega (arith, end))

same_offer_lem : (day : Day) (o : Offering) → NoDips o.samples → offered day o ≡ offered_unbroken day o
same_offer_lem day o none = ap (λ v. unless_refused (first_of (day_checks_by v day o)) day (admitted_by v day o)) (same_event_lem o.samples none)

same_day_lem : (day : Day) (calls : List Call) → NoneDips calls → day_after_calls day calls ≡ day_after_calls_by offered_unbroken day calls
same_day_lem day [] none = refl
same_day_lem day (offering o ∷ cs) none =
    same_day_lem (offered day o).day cs none.1 ∙ ap (λ d. day_after_calls_by offered_unbroken d cs) (ap (λ a. a.day) (same_offer_lem day o none.0))
same_day_lem day (closing before after ∷ cs) none = same_day_lem day cs none

pub unbroken_law : UnbrokenLaw
unbroken_law =
    record {
      same_event = λ s. (same_event_lem s, only_event s);
      same_offer = same_offer_lem;
      same_day = same_day_lem;
    }
