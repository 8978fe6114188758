-- The energies of the stretches that a tally holds: the weighted sum of their samples, and a bound under which no sum wraps.
use mathlib.Core.Path.{◌≡◌, sym, ◌∙◌}
use mathlib.Core.Bool.{Bool, true, false, cond}
use mathlib.Core.List.{List, [], ◌∷◌, ◌++◌}
use Prim.Native.Nat.{ℕ, ◌+◌, ◌*◌, ◌^◌, ◌≤◌, ◌<◌, zero-le}
use native.Mathlib.Nat.{add_assoc, zero-add, lt_of_le_of_lt, le_trans, mul-le-mul_left}
use native.Mathlib.Omega.{arith}
use lib.Dec.{lit<}
use Rattle.quantity.specs.Limits.{highest_sample}
use Rattle.power.specs.Power.{e, G}
use Rattle.power.proofs.Scale.{e_at, m_zero}
use Rattle.limbs.specs.Value.{base}
use Rattle.level.specs.Accuracy.{Sample, weighted, weigh}
use Rattle.clock.specs.Clock.{latest_end}
use Rattle.clock.specs.declared.Rate.{Rate}
use Rattle.clock.proofs.Rates.{latest_most}
use Rattle.decades.specs.Decades.{energies}
use Rattle.exposure.proofs.Accuracy.{weighted_energies}
use Rattle.accuracy.specs.Tally.{Held, same_as, held_samples}
use Rattle.accuracy.specs.Laws.{period_energy}
use Rattle.accuracy.specs.Hours.{held_energy}

-- an energy in its period, with the weight of the period
by_period : (w : Bool → ℕ) (p : Bool) (S d n : ℕ)
    → w p * S + (w true * d + w false * n) ≡ w true * (cond (same_as p true) S 0 + d) + w false * (cond (same_as p false) S 0 + n)
by_period w true S d n = omega arith
by_period w false S d n = omega arith

pub weighted_append : (g : ℕ → ℕ) (a b : List Sample) → weighted g (a ++ b) ≡ weighted g a + weighted g b
unfolding weighted
weighted_append g [] b = sym (zero-add _)
weighted_append g (s ∷ ss) b = rw (weighted_append g ss b) (sym (add_assoc _ _ _))

-- the held samples, each with the weight of its period: each period's energy with its weight
pub weighted_held : (w : Bool → ℕ) (hs : List Held) → weighted e (held_samples w hs) ≡ w true * period_energy true hs + w false * period_energy false hs
unfolding weighted period_energy
weighted_held w [] = omega arith
weighted_held w (h ∷ hs) =
    weighted_append e (weigh (w h.daytime) h.levels) (held_samples w hs)
    ∙ (rw (weighted_energies (w h.daytime) h.levels, weighted_held w hs) (by_period w h.daytime (energies h.levels) (period_energy true hs) (period_energy false hs)))

-- the energy of all stretches is that of both periods together
pub both_periods : (hs : List Held) → period_energy true hs + period_energy false hs ≡ held_energy hs
unfolding period_energy held_energy
both_periods [] = omega arith
both_periods (h ∷ hs) =
    omega (arith, by_period (λ p. 1) h.daytime (energies h.levels) (period_energy true hs) (period_energy false hs), both_periods hs)

pub period_part : (p : Bool) (hs : List Held) → period_energy p hs ≤ held_energy hs
period_part true hs = omega (arith, both_periods hs)
period_part false hs = omega (arith, both_periods hs)

-- samples at the highest level up to the latest end of a window have less energy than four limbs hold
pub day_fits : (rate : Rate) (S end : ℕ) → S ≤ e highest_sample * end → end ≤ latest_end rate → S < base ^ 4
day_fits rate S end h l =
    let top : e highest_sample ≡ G * 10 ^ 14 = rw m_zero at (e_at 14 0 zero-le) in
    lt_of_le_of_lt (le_trans h (mul-le-mul_left (e highest_sample) (le_trans l (latest_most rate)))) (rw top (lit< tt))
