-- The unbroken run lies in the stretch; so what is accepted was accepted by it, with an exposure level that was not higher.
use mathlib.Core.Path.{◌≡◌, refl, sym, ◌∙◌}
use mathlib.Core.Bool.{false, true≢false}
use mathlib.Core.List.{List, [], ◌∷◌}
use Prim.Native.Nat.{ℕ, zero, suc, ◌+◌, ◌-◌, ◌≤◌, ◌<◌, zero-le}
use native.Mathlib.Nat.{le_refl}
use native.Mathlib.Omega.{arith}
use borrow.Author.Rules.{rules}
use borrow.Author.Tests.{eqb-false, ne_eqb, ltb-false, le-ltb}
use lib.Dec.{eqb}
use lib.ListN.{length}
use lib.Seq.{slice}
use Rattle.quantity.specs.Rules.{first_of}
use Rattle.quantity.proofs.Refusing.{pass, passes}
use Rattle.quantity.proofs.Tests.{neither}
use Rattle.level.proofs.Answer.{level_rises}
use Rattle.clock.specs.Clock.{samples_a_second}
use Rattle.clock.proofs.Rates.{rate_positive}
use Rattle.event.specs.Window.{highest}
use Rattle.event.specs.Stretch.{near, stretch_first, stretch_end, touches_edge}
use Rattle.event.specs.Event.{event_of}
use Rattle.event.proofs.Places.{first_place_lem, end_place_lem}
use Rattle.event.proofs.Whole.{peak_inside}
use Rattle.decades.specs.Decades.{energies}
use Rattle.ledger.specs.declared.Day.{Day}
use Rattle.admission.specs.Checks.{Offering, day_checks_by}
use Rattle.offering.specs.Offer.{admitted_by, unless_refused}
use Rattle.accuracy.specs.Unbroken.{run_first, run_end, unbroken_event, offered_unbroken, OnlyRaised, RaisedLaw}
use Rattle.accuracy.proofs.Lists.{part_energy}
use Rattle.accuracy.proofs.Unbroken.{run_near, run_from, run_within}

-- the run lies in the stretch
record RunInside (s : List ℕ) : Type 0 where
  from : stretch_first s ≤ run_first s
  to : run_end s ≤ stretch_end s

run_inside : (s : List ℕ) → RunInside s
run_inside [] = record { from = zero-le; to = zero-le }
run_inside (c ∷ cs) =
    let s = c ∷ cs in
    let some : 0 < length s = omega arith in
    let places = peak_inside s some in
    let first = first_place_lem (near (highest s)) s in
    let end = end_place_lem (near (highest s)) s in
    let last = run_end s - 1 in
    let earlier : run_first s < stretch_first s → ⊥ =
    λ h. true≢false (sym (run_near s some (run_first s) (le_refl _) (omega arith)) ∙ first.from.before (run_first s) h) in
    let later : stretch_end s < run_end s → ⊥ =
    λ h.
    true≢false
    (sym (run_near s some last (omega (arith, run_from s some)) (omega arith)) ∙ end.from.after last (omega arith) (omega (arith, run_within s some))) in
    record { from = omega (arith, earlier); to = omega (arith, later) }

-- so it has at most the energy of the stretch
run_energy : (s : List ℕ) → energies (slice (run_first s) (run_end s) s) ≤ energies (slice (stretch_first s) (stretch_end s) s)
run_energy s =
    let r = run_inside s in
    part_energy s r.from r.to

-- the rules 7 and 8 pass by the run where they pass by the stretch, and all others are the same
module _ (day : Day) (o : Offering) where
  then_passes : first_of (day_checks_by (event_of o.samples) day o) ≡ 0 → first_of (day_checks_by (unbroken_event o.samples) day o) ≡ 0
  then_passes h =
      let s = o.samples in
      let n = length s in
      let start = o.recording.start.0 in
      let r = run_inside s in
      let p = pass (day_checks_by (event_of s) day o) (search rules) h in
      let edge = neither (eqb (stretch_first s) 0) (eqb (stretch_end s) n) p.1.1.1.1.1.1.1.0 in
      let first = eqb-false (stretch_first s) 0 edge.0 in
      let end = eqb-false (stretch_end s) n edge.1 in
      let within = (end_place_lem (near (highest s)) s).from.within in
      let inside : touches_edge (run_first s) (run_end s) n ≡ false = rw (ne_eqb (run_first s) 0 (omega (arith, first, r.from)), ne_eqb (run_end s) n (omega (arith, end, r.to, within))) in
      let after = le-ltb (start + run_first s) day.end.0 (omega (arith, r.from, ltb-false (start + stretch_first s) day.end.0 p.1.1.1.1.1.1.1.1.0)) in
      sym (passes (day_checks_by (unbroken_event s) day o) (p.0, (p.1.0, (p.1.1.0, (p.1.1.1.0, (p.1.1.1.1.0, (p.1.1.1.1.1.0, (p.1.1.1.1.1.1.0, (inside, (after, p.1.1.1.1.1.1.1.1.1))))))))))

pub raised_law : RaisedLaw
raised_law day o = by_number (first_of (day_checks_by (event_of s) day o)) refl
  where
    s : List ℕ
    s = o.samples

    both : first_of (day_checks_by (unbroken_event s) day o) ≡ 0 → OnlyRaised (admitted_by (event_of s) day o).answer (offered_unbroken day o).answer
    both h = rw h (refl, level_rises 0 (samples_a_second day.settings.rate) (rate_positive day.settings.rate) (run_energy s))

    by_number : (n : ℕ) → first_of (day_checks_by (event_of s) day o) ≡ n
        → OnlyRaised (unless_refused n day (admitted_by (event_of s) day o)).answer (offered_unbroken day o).answer
    by_number zero h = both (then_passes day o h)
    by_number (suc n) h = tt
