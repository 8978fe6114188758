-- Levels that the library gives fit 32 bits with room to spare, so that they are told from the number that stands for 'below scale'.
use mathlib.Core.Path.{◌≡◌, ◌∙◌}
use mathlib.Core.Bool.{Bool, true, false, cond}
use mathlib.Core.List.{List, [], ◌∷◌}
use mathlib.Core.Option.{Option, some, none}
use Prim.Native.Nat.{ℕ, suc, ◌+◌, ◌-◌, ◌*◌, ◌^◌, ◌≤◌, ◌<◌}
use native.Mathlib.Nat.{le_refl, le_of_lt, le_trans, lt_of_le_of_lt, lt_of_not-le, not-le_of_lt, le-mul_of_pos_right, mul_comm, mul-le-mul, mul-le-mul_left, mul-lt-mul_of_pos_left, add-le-add}
use native.Mathlib.Omega.{arith}
use lib.Dec.{ltb, lit<, lit≤}
use lib.IntN.{pos, negsuc}
use lib.ListN.{length, get_or}
use lib.Signed.{mag}
use Rattle.quantity.specs.Answers.{Reading, level, below_scale}
use Rattle.quantity.specs.Limits.{highest_sample, highest_day_level}
use Rattle.quantity.specs.Scale.{depth, depth_factor, lowered, is_level_outside}
use Rattle.quantity.specs.Rules.{first_of}
use Rattle.quantity.proofs.Scale.{not_outside}
use Rattle.quantity.proofs.Tests.{neither}
use Rattle.power.specs.Power.{e, G}
use Rattle.power.proofs.Scale.{e_mono, e_at, e_higher, m_zero}
use Rattle.limbs.specs.Value.{base}
use Rattle.level.specs.Level.{height_of, reading_at, largest_level, level_of}
use Rattle.level.proofs.Answer.{Answers, answers}
use Rattle.clock.specs.Clock.{samples_a_second, latest_end}
use Rattle.clock.specs.declared.Rate.{Rate}
use Rattle.clock.specs.declared.Rate.TheVariants.{Forty}
use Rattle.clock.proofs.Rates.{rate_positive, latest_most}
use Rattle.exposure.specs.Exposure.{energy_of, exposure_of}
use Rattle.event.specs.Stretch.{stretch_end}
use Rattle.event.proofs.Whole.{in_window}
use Rattle.ledger.specs.Book.{sum_of}
use Rattle.admission.specs.Checks.{Offering, offer_checks}
use Rattle.mean.specs.Mean.{any_outside, sum_of_powers}
use Rattle.accuracy.proofs.Windows.{stretch_energy, admits}
use Rattle.c_interface.specs.Numbers.{Told}

-- a level that no sum reaches, and that level raised
abbrev pub top : ℕ
top = 60000

abbrev raised_top : ℕ
raised_top = 1000 * 5 + top

at_top : e top ≡ G * 10 ^ 60
at_top = e_at 60 0 (lit≤ tt) ∙ rw m_zero

-- the level of a raised one that is below it is told
told_height : (h : ℕ) → h < raised_top → Told (level (lowered h))
told_height h l = go (ltb h depth)
  where
    go : (v : Bool) → mag (cond v (negsuc (depth - suc h)) (pos (h - depth))) < 2147483647
    go true = omega arith
    go false = omega arith

told_largest : (d M S : ℕ) → 0 < M → S < e raised_top → Told (largest_level d M S)
told_largest d M S p h = go (height_of d M S) (answers d M S p)
  where
    go : (a : Option ℕ) → Answers d M S a → Told (reading_at a)
    go (some r) (reached, missed) =
        let once : e (r + d) ≤ M * e (r + d) = rw mul_comm (le-mul_of_pos_right (e (r + d)) p) in
        told_height r (lt_of_not-le (λ l. not-le_of_lt h (le_trans (e_mono (omega arith)) (le_trans once reached))))
    go none a = tt

pub told : (d M S : ℕ) → 0 < M → S < e top → Told (level_of d M S)
told d M S p h = told_largest d M (depth_factor * S) p (rw (e_higher 5 top) (mul-lt-mul_of_pos_left h (lit< tt)))

-- the exposure level of an offer that no rule refuses
pub told_exposure : (rate : Rate) (o : Offering) (unbooked : Bool) (end : ℕ) (used : Bool) → first_of (offer_checks rate o unbooked end used) ≡ 0
    → Told (exposure_of rate o.samples)
told_exposure rate o unbooked end used h =
    let a = admits rate o unbooked end used h in
    let s = o.samples in
    let energy : energy_of s ≤ e highest_sample * stretch_end s = omega (arith, stretch_energy highest_sample s a.level) in
    let ticks : stretch_end s ≤ latest_end Forty = omega (arith, (in_window s).end, a.inside.ends, latest_most rate) in
    let most : e highest_sample * latest_end Forty < e top = rw (at_top, e_at 14 0 (lit≤ tt), m_zero) (lit< tt) in
    told 0 (samples_a_second rate) (energy_of s) (rate_positive rate) (lt_of_le_of_lt (le_trans energy (mul-le-mul_left (e highest_sample) ticks)) most)

-- the level of two energies below 2^128 with weights below 10^8
pub told_weighted : (d M : ℕ) {a b x y : ℕ} → 0 < M → a ≤ 10 ^ 8 → b ≤ 10 ^ 8 → x < base ^ 4 → y < base ^ 4 → Told (level_of d M (a * x + b * y))
told_weighted d M p ha hb hx hy =
    told d M _ p
    (lt_of_le_of_lt
    (add-le-add (mul-le-mul ha (le_of_lt hx)) (mul-le-mul hb (le_of_lt hy)))
    (rw at_top (lit< tt)))

-- flights by class, each below 2^16
pub sum_most : (xs : List ℕ) → ((i : ℕ) → get_or xs i 0 < 65536) → sum_of xs ≤ 65535 * length xs
unfolding sum_of
sum_most [] h = omega arith
sum_most (x ∷ xs) h = omega (arith, h 0, sum_most xs (λ i. h (suc i)))

-- the mean of days of which none is outside
sum_low : (days : List Reading) → any_outside days ≡ false → sum_of_powers days ≤ length days * e (highest_day_level + depth)
unfolding sum_of_powers any_outside
sum_low [] h = omega arith
sum_low (level r ∷ days) h =
    let n = neither (is_level_outside r) (any_outside days) h in
    omega (arith, e_mono (not_outside r n.0).1, sum_low days n.1)
sum_low (below_scale ∷ days) h = omega (arith, sum_low days h)

pub told_mean : (days : List Reading) → 0 < length days → length days ≤ 366 → any_outside days ≡ false → Told (largest_level 0 (length days) (sum_of_powers days))
told_mean days some_day few inside =
    let most : 366 * e (highest_day_level + depth) < e raised_top = rw (e_higher 5 top, at_top, e_at 25 0 (lit≤ tt), m_zero) (lit< tt) in
    told_largest 0 (length days) (sum_of_powers days) some_day (lt_of_le_of_lt (le_trans (sum_low days inside) (mul-le-mul few (le_refl (e (highest_day_level + depth))))) most)
