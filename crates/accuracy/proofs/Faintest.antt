-- No event is below scale: the faintest that is accepted has the energy of a lone sample of 1500 at the least.
use mathlib.Core.Path.{◌≡◌, refl, sym, ap, subst, ◌∙◌}
use mathlib.Core.List.{List}
use mathlib.Core.Option.{some}
use Prim.Native.Nat.{ℕ, zero, suc, ◌+◌, ◌-◌, ◌*◌, ◌^◌, ◌≤◌, ◌<◌, zero-le}
use native.Mathlib.Nat.{le_trans}
use native.Mathlib.Omega.{arith}
use lib.Dec.{lit<, lit≤}
use lib.ListN.{length, get_or}
use lib.Seq.{length-slice}
use Rattle.quantity.specs.Answers.{Reading, level}
use Rattle.quantity.specs.Scale.{depth_factor}
use Rattle.quantity.specs.Rules.{first_of}
use Rattle.power.specs.Power.{m, e}
use Rattle.power.proofs.Scale.{m_is, e_at, e_mono}
use Rattle.level.specs.Level.{reading_at, level_of, NoHigher}
use Rattle.level.proofs.Answer.{answered, level_rises}
use Rattle.clock.specs.Clock.{samples_a_second}
use Rattle.clock.specs.declared.Rate.{Rate}
use Rattle.clock.specs.declared.Rate.TheVariants.{Ten, Twenty, Forty}
use Rattle.clock.proofs.Rates.{rate_positive}
use Rattle.event.specs.Window.{highest, peak_of}
use Rattle.event.specs.Stretch.{stretch_first, stretch_end, stretch_of}
use Rattle.event.proofs.Whole.{in_window, peak_inside}
use Rattle.decades.specs.Decades.{energies}
use Rattle.decades.proofs.Counting.{energies_drop}
use Rattle.exposure.specs.Exposure.{energy_of}
use Rattle.admission.specs.Checks.{day_checks}
use Rattle.offering.specs.Offer.{offered_by}
use Rattle.accuracy.specs.QuietFields.{level_in, lowest_exposure, NoLower, FaintestLaw}
use Rattle.accuracy.proofs.Lists.{drop_energy}
use Rattle.accuracy.proofs.Windows.{at_peak, admits}

-- a stretch has the energy of its highest sample at the least
sample_energy : (s : List ℕ) (i : ℕ) → i < length s → e (get_or s i 0) ≤ energies s
sample_energy s i h = le_trans (omega (arith, energies_drop s i h)) (drop_energy 0 i s zero-le)

peak_energy : (s : List ℕ) → 0 < length s → e (highest s) ≤ energy_of s
peak_energy s h =
    let i = peak_inside s h in
    let size = length-slice (stretch_first s) (stretch_end s) s (in_window s).end in
    rw (at_peak s h) at (sample_energy (stretch_of s) (peak_of s - stretch_first s) (omega arith))

-- powers of given levels
power : (q f p : ℕ) → f ≤ 1000 → m f ≡ p → e (1000 * q + f) ≡ p * 10 ^ q
power q f p h k = e_at q f h ∙ ap (λ (x : ℕ). x * 10 ^ q) k

faintest : e 1500 ≡ 3162277660 * 10 ^ 1
faintest = power 1 500 3162277660 (lit≤ tt) (m_is 500 3162277660 (lit≤ tt) (lit< tt))

-- the level of a lone sample of 1500
lone_sample : (rate : Rate) → level_of 0 (samples_a_second rate) (e 1500) ≡ level (lowest_exposure rate)
lone_sample Ten =
    ap reading_at (sym (answered 0 10 (depth_factor * e 1500) (some 5500) (lit< tt) (
      rw (power 5 500 3162277660 (lit≤ tt) (m_is 500 3162277660 (lit≤ tt) (lit< tt)), faintest) (lit≤ tt),
      rw (power 5 501 3169567463 (lit≤ tt) (m_is 501 3169567463 (lit≤ tt) (lit< tt)), faintest) (lit< tt),
    )))
lone_sample Twenty =
    ap reading_at (sym (answered 0 20 (depth_factor * e 1500) (some 5198) (lit< tt) (
      rw (power 5 198 1577611269 (lit≤ tt) (m_is 198 1577611269 (lit≤ tt) (lit< tt)), faintest) (lit≤ tt),
      rw (power 5 199 1581248039 (lit≤ tt) (m_is 199 1581248039 (lit≤ tt) (lit< tt)), faintest) (lit< tt),
    )))
lone_sample Forty =
    ap reading_at (sym (answered 0 40 (depth_factor * e 1500) (some 4897) (lit< tt) (
      rw (power 4 897 7888601176 (lit≤ tt) (m_is 897 7888601176 (lit≤ tt) (lit< tt)), faintest) (lit≤ tt),
      rw (power 4 898 7906786279 (lit≤ tt) (m_is 898 7906786279 (lit≤ tt) (lit< tt)), faintest) (lit< tt),
    )))

pub faintest_law : FaintestLaw
faintest_law day o = go (first_of (day_checks day o)) refl
  where
    go : (n : ℕ) → first_of (day_checks day o) ≡ n → NoLower (lowest_exposure day.settings.rate) (level_in (λ a. a.exposure) (offered_by n day o).answer)
    go zero h =
        let a = admits day.settings.rate o _ _ _ h in
        let loud = le_trans (e_mono {c = 1500} {d = highest o.samples} (omega (arith, a.loud))) (peak_energy o.samples a.some) in
        subst (λ (r : Reading). NoHigher r (level_of 0 (samples_a_second day.settings.rate) (energy_of o.samples))) (lone_sample day.settings.rate)
        (level_rises 0 (samples_a_second day.settings.rate) (rate_positive day.settings.rate) loud)
    go (suc n) h = tt
