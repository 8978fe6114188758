-- Samples in their ranges: energies rise from the lowest end to the highest; and the stretches that a tally holds, with such samples.
use mathlib.Core.Path.{◌≡◌, refl, ap, ap₂, ◌∙◌}
use mathlib.Core.Bool.{Bool, true, false, cond}
use mathlib.Core.List.{List, [], ◌∷◌, map}
use Prim.Native.Nat.{ℕ, ◌+◌, ◌≤◌, ◌<◌, zero-le}
use native.Mathlib.Nat.{add-le-add}
use native.Mathlib.Omega.{arith}
use lib.ListN.{replicate, length-map}
use Rattle.quantity.specs.Limits.{highest_sample}
use Rattle.quantity.specs.Lists.{Each}
use Rattle.quantity.specs.Tolerance.{bound_of, at_bound, Within}
use Rattle.quantity.specs.declared.Bound.{Bound}
use Rattle.quantity.specs.declared.Bound.TheVariants.{Lowest, Highest}
use Rattle.quantity.proofs.Tests.{test}
use Rattle.quantity.proofs.Ranges.{sample_within, end_within}
use Rattle.power.specs.Power.{e}
use Rattle.power.proofs.Scale.{e_mono}
use Rattle.limbs.specs.Value.{value, limbs_of}
use Rattle.event.specs.Window.{highest}
use Rattle.decades.specs.Decades.{energies}
use Rattle.exposure.proofs.Ranges.{ends_low, ends_exact}
use Rattle.offering.specs.Offer.{sum_with}
use Rattle.accuracy.specs.Tally.{Held, same_as, with_levels, held_at}
use Rattle.accuracy.specs.Laws.{Apart, period_energy}
use Rattle.accuracy.specs.Hours.{held_energy}
use Rattle.accuracy.specs.Tolerance.{InRange, InRanges, with_samples, SameButSamples}
use Rattle.accuracy.proofs.Held.{Low, count_in}
use Rattle.accuracy.proofs.Sums.{period_part}

-- lists of samples in their ranges: both ends, and the samples themselves
ends_in_range : (b : Bound) (u : ℕ) (s : List ℕ) → highest s ≤ highest_sample → InRange u s (at_bound b u s)
ends_in_range b u [] low = tt
ends_in_range b u (c ∷ cs) low = (end_within c (omega arith) b u, ends_in_range b u cs (omega arith))

samples_in_range : (u : ℕ) (s : List ℕ) → highest s ≤ highest_sample → InRange u s s
samples_in_range u [] low = tt
samples_in_range u (c ∷ cs) low = (sample_within c (omega arith) u, samples_in_range u cs (omega arith))

-- what an end comes to lies on its own side of what any level of the range comes to: the lowest is not above it, the highest not below
pub data Outside : Bound → (end n : ℕ) → Type 0 where
  not_above : {end n : ℕ} → end ≤ n → Outside Lowest end n
  not_below : {end n : ℕ} → n ≤ end → Outside Highest end n

outside_none : (b : Bound) → Outside b 0 0
outside_none Lowest = not_above zero-le
outside_none Highest = not_below zero-le

outside_sum : {b : Bound} {c d m n : ℕ} → Outside b c m → Outside b d n → Outside b (c + d) (m + n)
outside_sum (not_above h) (not_above g) = not_above (add-le-add h g)
outside_sum (not_below h) (not_below g) = not_below (add-le-add h g)

outside_power : {b : Bound} {c n : ℕ} → Outside b c n → Outside b (e c) (e n)
outside_power (not_above h) = not_above (e_mono h)
outside_power (not_below h) = not_below (e_mono h)

outside_range : (b : Bound) (u c s : ℕ) → Within u c s → Outside b (bound_of b u c) s
outside_range Lowest u c s w = not_above w.0
outside_range Highest u c s w = not_below w.1

outside_energy : (b : Bound) (u : ℕ) (cs ss : List ℕ) → InRange u cs ss → Outside b (energies (at_bound b u cs)) (energies ss)
unfolding energies
outside_energy b u [] [] r = outside_none b
outside_energy b u [] (s ∷ ss) r = absurd r
outside_energy b u (c ∷ cs) [] r = absurd r
outside_energy b u (c ∷ cs) (s ∷ ss) r = outside_sum (outside_power (outside_range b u c s r.0)) (outside_energy b u cs ss r.1)

-- so it is for the energy of a period
outside_part : (b : Bound) (own : Bool) {c n : ℕ} → Outside b c n → Outside b (cond own c 0) (cond own n 0)
outside_part b true h = h
outside_part b false h = outside_none b

pub outside_period : (b : Bound) (p : Bool) (hs : List Held) (ss : List (List ℕ)) → InRanges hs ss
    → Outside b (period_energy p (map (held_at b) hs)) (period_energy p (with_samples hs ss))
unfolding period_energy
outside_period b p [] [] r = outside_none b
outside_period b p [] (s ∷ ss) r = absurd r
outside_period b p (h ∷ hs) [] r = absurd r
outside_period b p (h ∷ hs) (s ∷ ss) r =
    outside_sum (outside_part b (same_as h.daytime p) (outside_energy b h.tolerance h.levels s r.0)) (outside_period b p hs ss r.1)

-- the stretches with each sample at an end lie where they lay, and none of their samples is above the highest level
pub apart_at : (b : Bound) (end : ℕ) (hs : List Held) → Apart end hs → Apart end (map (held_at b) hs)
apart_at b end [] p = tt
apart_at b end (h ∷ hs) p = (p.0, p.1, apart_at b h.from hs p.2)

pub low_at : (b : Bound) (hs : List Held) → Each Low hs → Each Low (map (held_at b) hs)
low_at b [] low = tt
low_at b (h ∷ hs) low =
    let same = length-map h.levels (bound_of b h.tolerance) in
    ((omega (arith, same, low.0.0), ends_low b h.tolerance h.levels low.0.1), low_at b hs low.1)

-- the lists of samples that are recorded, and those at an end, lie in the ranges
pub all_recorded : (hs : List Held) → Each Low hs → InRanges hs (map (λ h. h.levels) hs)
all_recorded [] low = tt
all_recorded (h ∷ hs) low = (samples_in_range h.tolerance h.levels low.0.1, all_recorded hs low.1)

pub with_recorded : (hs : List Held) → with_samples hs (map (λ h. h.levels) hs) ≡ hs
with_recorded [] = refl
with_recorded (h ∷ hs) = ap (λ (ks : List Held). h ∷ ks) (with_recorded hs)

pub all_ends : (b : Bound) (hs : List Held) → Each Low hs → InRanges hs (map (λ h. (held_at b h).levels) hs)
all_ends b [] low = tt
all_ends b (h ∷ hs) low = (ends_in_range b h.tolerance h.levels low.0.1, all_ends b hs low.1)

-- without tolerances both ends are the stretches themselves
pub all_exact : (b : Bound) (hs : List Held) → Each Low hs → Each (λ h. h.tolerance ≡ 0) hs → map (held_at b) hs ≡ hs
all_exact b [] low none = refl
all_exact b (h ∷ hs) low none =
    let same : at_bound b h.tolerance h.levels ≡ h.levels = rw none.0 (ends_exact b h.levels low.0.1) in
    ap₂ ◌∷◌ (ap (with_levels h) same) (all_exact b hs low.1 none.1)

-- stretches that are others but for their samples: as many in each period, and the energies of the others with those samples
pub alike_in_ranges : (hs ks : List Held) → SameButSamples hs ks → InRanges hs (map (λ k. k.levels) ks)
alike_in_ranges [] [] same = tt
alike_in_ranges [] (k ∷ ks) same = absurd same
alike_in_ranges (h ∷ hs) [] same = absurd same
alike_in_ranges (h ∷ hs) (k ∷ ks) same = (same.3, alike_in_ranges hs ks same.4)

module _ (p : Bool) where
  pub alike_count : (hs ks : List Held) → SameButSamples hs ks → count_in p ks ≡ count_in p hs
  alike_count [] [] same = refl
  alike_count [] (k ∷ ks) same = absurd same
  alike_count (h ∷ hs) [] same = absurd same
  alike_count (h ∷ hs) (k ∷ ks) same = rw (same.2, alike_count hs ks same.4)

  pub alike_energy : (hs ks : List Held) → SameButSamples hs ks → period_energy p ks ≡ period_energy p (with_samples hs (map (λ k. k.levels) ks))
  unfolding period_energy
  alike_energy [] [] same = refl
  alike_energy [] (k ∷ ks) same = absurd same
  alike_energy (h ∷ hs) [] same = absurd same
  alike_energy (h ∷ hs) (k ∷ ks) same = rw (same.2, alike_energy hs ks same.4)

-- the sum of a period at an end, as a day keeps it: each stretch joins that of its period
abbrev pub sum_of_stretches : Bound → Bool → List Held → List ℕ
sum_of_stretches b p [] = replicate 4 0
sum_of_stretches b p (h ∷ hs) =
    let sum = sum_of_stretches b p hs in
    cond (same_as h.daytime p) (sum_with sum (energies (at_bound b h.tolerance h.levels))) sum

-- where no sum wraps, it is the energy of the period. W stands for 2 ^ 128, a number too long for the prover's arithmetic.
module _ {W : ℕ} (whole : (n : ℕ) → n < W → value (limbs_of 4 n) ≡ n) (b : Bound) (p : Bool) where
  pub sum_has : (hs : List Held) → held_energy (map (held_at b) hs) < W → value (sum_of_stretches b p hs) ≡ period_energy p (map (held_at b) hs)
  unfolding period_energy held_energy value
  sum_has [] fits = refl
  sum_has (h ∷ hs) fits =
      let S = energies (at_bound b h.tolerance h.levels) in
      let rest = sum_has hs (omega arith) in
      let part = period_part p (map (held_at b) hs) in
      test (same_as h.daytime p)
      (λ t. rw t (whole (value (sum_of_stretches b p hs) + S) (omega (arith, rest, part)) ∙ omega (arith, rest)))
      (λ f. rw f (omega (arith, rest)))
