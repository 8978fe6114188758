-- What is known of the stretch of an offer that no rule refuses.
use mathlib.Core.Path.{◌≡◌, sym, ap, ◌∙◌}
use mathlib.Core.Bool.{Bool, false}
use mathlib.Core.List.{List}
use Prim.Native.Nat.{ℕ, ◌+◌, ◌-◌, ◌*◌, ◌≤◌, ◌<◌}
use native.Mathlib.Nat.{le_trans, le_antisymm}
use native.Mathlib.Omega.{arith}
use borrow.Author.Tests.{ltb-false}
use borrow.Author.Rules.{rules}
use lib.Dec.{ltb}
use lib.ListN.{length, get_or, take}
use lib.Seq.{length-slice, get_or-take, get_or-drop}
use Rattle.quantity.specs.Limits.{highest_sample}
use Rattle.quantity.specs.Rules.{first_of}
use Rattle.quantity.proofs.Refusing.{pass}
use Rattle.power.specs.Power.{e}
use Rattle.clock.specs.Clock.{shortest_window, longest_window}
use Rattle.clock.specs.declared.Rate.{Rate}
use Rattle.clock.proofs.Inside.{Inside, inside}
use Rattle.event.specs.Window.{highest, peak_of, any_above}
use Rattle.event.specs.Stretch.{stretch_first, stretch_end, stretch_of}
use Rattle.decades.specs.Decades.{energies}
use Rattle.event.proofs.Places.{peaks, highest_above, highest_slice}
use Rattle.event.proofs.Whole.{any_above_lem, in_window, peak_inside}
use Rattle.admission.specs.Checks.{Offering, offer_checks}
use Rattle.quantity.proofs.Tests.{neither}
use Rattle.accuracy.proofs.Lists.{energies_most}

-- the stretch has the window's highest level, at the peak
pub at_peak : (s : List ℕ) → 0 < length s → get_or (stretch_of s) (peak_of s - stretch_first s) 0 ≡ highest s
at_peak s h =
    let i = peak_inside s h in
    let n : stretch_first s + (peak_of s - stretch_first s) ≡ peak_of s = omega arith in
    get_or-drop (stretch_first s) (take (stretch_end s) s) (peak_of s - stretch_first s) 0
    ∙ (rw (n, get_or-take (stretch_end s) s (peak_of s) 0 i.1) (peaks s h).there)

pub highest_stretch : (s : List ℕ) → 0 < length s → highest (stretch_of s) ≡ highest s
highest_stretch s h =
    le_antisymm (highest_slice (stretch_first s) (stretch_end s) s) (rw (at_peak s h) at (highest_above (stretch_of s) (peak_of s - stretch_first s)))

-- it has a sample at each of its instants
pub stretch_length : (s : List ℕ) → length (stretch_of s) ≡ stretch_end s - stretch_first s
stretch_length s = length-slice (stretch_first s) (stretch_end s) s (in_window s).end

-- its energy is at most that of as many samples at a level that none passes
pub stretch_energy : (c : ℕ) (s : List ℕ) → highest s ≤ c → energies (stretch_of s) + e c * stretch_first s ≤ e c * stretch_end s
stretch_energy c s h =
    let w = in_window s in
    let n : stretch_first s + (stretch_end s - stretch_first s) ≡ stretch_end s = omega arith in
    let all : e c * (stretch_first s + (stretch_end s - stretch_first s)) ≡ e c * stretch_end s = ap (λ (k : ℕ). e c * k) n in
    let most = rw (stretch_length s) at
    (energies_most c (stretch_of s) (le_trans (highest_slice (stretch_first s) (stretch_end s) s) h)) in
    omega arith

-- what no refusal says of an offer: 1 and 2, 3, 4, 6, 8 and 9
pub record Admitted (rate : Rate) (o : Offering) (unbooked : Bool) (end : ℕ) (used : Bool) : Type 0 where
  pub some : 0 < length o.samples
  pub inside : Inside rate o.recording.start.0 (peak_of o.samples) (length o.samples)
  pub booked : unbooked ≡ false
  pub level : highest o.samples ≤ highest_sample
  pub loud : o.recording.background.0 + 1500 ≤ highest o.samples
  pub after : end ≤ o.recording.start.0 + stretch_first o.samples
  pub unused : used ≡ false

pub admits : (rate : Rate) (o : Offering) (unbooked : Bool) (end : ℕ) (used : Bool) → first_of (offer_checks rate o unbooked end used) ≡ 0
    → Admitted rate o unbooked end used
admits rate o unbooked end used h =
    let c = o.recording in
    let n = length o.samples in
    let p = pass (offer_checks rate o unbooked end used) (search rules) h in
    let count = neither (ltb n shortest_window) (ltb (longest_window rate) n) p.0 in
    let high = neither (any_above highest_sample o.samples) (ltb highest_sample c.background.0) p.1.1.1.0 in
    record {
      some = omega (arith, ltb-false n shortest_window count.0);
      inside = inside rate c.start.0 (peak_of o.samples) n p.1.0;
      booked = p.1.1.0;
      level = ltb-false highest_sample (highest o.samples) (sym (any_above_lem highest_sample o.samples) ∙ high.0);
      loud = ltb-false (highest o.samples) (c.background.0 + 1500) p.1.1.1.1.1.1.0;
      after = ltb-false (c.start.0 + stretch_first o.samples) end p.1.1.1.1.1.1.1.1.0;
      unused = p.1.1.1.1.1.1.1.1.1.0;
    }
