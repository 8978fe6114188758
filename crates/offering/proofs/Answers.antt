-- What holds of an offer that no rule refuses, and what comes of an offer.
use mathlib.Core.Path.{◌≡◌, refl}
use mathlib.Core.List.{List}
use Prim.Native.Nat.{ℕ, ◌≤◌}
use native.Mathlib.Omega.{arith}
use borrow.Author.Rules.{rules}
use borrow.Author.Tests.{ltb-false, leb-false}
use lib.Dec.{leb, ltb}
use lib.ListN.{length}
use lib.Seq.{slice}
use Rattle.quantity.specs.Answers.{reading}
use Rattle.quantity.specs.Limits.{highest_sample}
use Rattle.quantity.specs.Rules.{first_of, refused, given}
use Rattle.quantity.proofs.Refusing.{Pass, pass}
use Rattle.quantity.proofs.Outcomes.{refused_alike, given_alike}
use Rattle.quantity.proofs.Tests.{neither}
use Rattle.limbs.specs.Value.{value, limbs_of}
use Rattle.limbs.proofs.Digits.{added_modulo}
use Rattle.event.specs.Window.{highest, any_above}
use Rattle.clock.specs.Clock.{longest_of_all}
use Rattle.clock.proofs.Inside as clocks
use Rattle.clock.proofs.Rates.{rate_most}
use Rattle.event.specs.Event.{event_of}
use Rattle.event.specs.declared.Event.{Event}
use Rattle.exposure.specs.Exposure.{EnergyRange, range_of, energy_range}
use Rattle.exposure.specs.Exposing.{Inside, Exposed}
use Rattle.exposure.specs.declared.Exposure.{Exposure}
use Rattle.event.proofs.Whole.{any_above_lem, in_window}
use Rattle.ledger.specs.Book.{most_classes}
use Rattle.ledger.specs.Day.{energy_at, period_of}
use Rattle.ledger.specs.declared.Day.{Day}
use Rattle.admission.specs.Checks.{Offering, in_daytime, day_checks}
use Rattle.admission.specs.Judging.{judged_of}
use Rattle.admission.specs.declared.Recording.{Recording}
use Rattle.admission.proofs.Rules.{short_enough}
use Rattle.offering.specs.Offer.{in_hour, entered, admitted, offered}
use Rattle.offering.specs.Entering.{Admissible}

-- what holds of an offer that no rule refuses
module _ (day : Day) (r : Recording) (s : List ℕ) (h : first_of (day_checks day (record { recording = r; samples = s })) ≡ 0) where
  passed : Pass (day_checks day (record { recording = r; samples = s }))
  passed = pass (day_checks day (record { recording = r; samples = s })) (search rules) h

  short : length s ≤ longest_of_all
  short = short_enough day.settings.rate (length s) passed.0

  window : clocks.Inside day.settings.rate r.start.0 (event_of s).peak (length s)
  window = clocks.inside day.settings.rate r.start.0 (event_of s).peak (length s) passed.1.0

  pub admissible : Admissible day r (event_of s)
  admissible =
      let w = in_window s in
      record {
        class = leb-false _ _ (neither (leb day.classes r.class) (leb most_classes r.class) passed.1.1.0).1;
        peak = omega (arith, w, short);
        in_day = (window.peak_from, window.peak_before);
        end = omega (arith, w, window.ends, rate_most day.settings.rate);
        left = leb-false _ _ passed.1.1.1.1.1.1.1.1.1.0;
      }

  -- its stretch lies in its window, with no sample above the limit
  pub inside : Inside s (event_of s).stretch.first (event_of s).stretch.end
  inside =
      let high = (neither (any_above highest_sample s) (ltb highest_sample r.background.0) passed.1.1.1.0).0 in
      let top = ltb-false highest_sample (highest s) (rw any_above_lem at high) in
      let w = in_window s in
      record { window = record { short = short; low = top }; begins = w.first; ends = w.end }

-- what an offer gives, by what is judged of it
pub not_admitted : (day : Day) (o : Offering) {n : ℕ} → judged_of day o ≡ refused n → record { day = day; answer = refused n } ≡ offered day o
not_admitted day o h = rw (refused_alike (first_of (day_checks day o)) (event_of o.samples) (admitted day o) h)

pub is_admitted : (day : Day) (o : Offering) {v : Event} → judged_of day o ≡ given v → admitted day o ≡ offered day o
is_admitted day o h = rw (given_alike (first_of (day_checks day o)) (event_of o.samples) (admitted day o) h)

-- no sum sees what an energy is modulo 2 ^ 128
abbrev in_four_limbs : EnergyRange → EnergyRange
in_four_limbs S =
    record { recorded = value (limbs_of 4 S.recorded); lowest = value (limbs_of 4 S.lowest); highest = value (limbs_of 4 S.highest) }

kept_modulo : (day : Day) (r : Recording) (v : Event) (S : EnergyRange) → entered day r v (in_four_limbs S) ≡ entered day r v S
kept_modulo day r v S =
    let period = period_of day (in_daytime day.settings r v) in
    rw (
      added_modulo 4 4 4 refl refl (energy_at period.cells (in_hour day r v)) S.recorded refl,
      added_modulo 4 4 4 refl refl (value period.lowest) S.lowest refl,
      added_modulo 4 4 4 refl refl (value period.highest) S.highest refl,
    )

-- the answer to it
pub answered : (day : Day) (o : Offering) (x : Exposure) → let v = event_of o.samples in
    Exposed day.settings.rate o.recording.tolerance.0 (slice v.stretch.first v.stretch.end o.samples) x
    → record {
      day = entered day o.recording v (energy_range x.energies);
      answer = given (record { exposure = reading x.level; lmax = highest o.samples });
    }
    ≡ admitted day o
answered day o x e =
    let v = event_of o.samples in
    let S = range_of o.recording.tolerance.0 (slice v.stretch.first v.stretch.end o.samples) in
    rw (e.sums.recorded, e.sums.lowest, e.sums.highest, kept_modulo day o.recording v S, e.exposure)
