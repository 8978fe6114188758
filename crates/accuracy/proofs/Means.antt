-- Demand 3 for means: what the level of the days' levels says of the exact sum of all their samples.
use mathlib.Core.Path.{◌≡◌, refl, sym, ap, subst, ◌∙◌}
use mathlib.Core.Bool.{Bool, true, false}
use mathlib.Core.Logic.{◌⊎◌, inl, ⊎_elim}
use mathlib.Core.List.{List, [], ◌∷◌}
use mathlib.Core.Option.{Option, some, none}
use Prim.Native.Nat.{ℕ, suc, ◌+◌, ◌*◌, ◌^◌, ◌≤◌, ◌<◌, zero-le}
use native.Mathlib.Nat.{add-zero, add_assoc, mul_assoc, mul-le-mul_left, mul-le-mul_right, le_of_lt, mul-lt-mul_of_pos_left, mul-pos, lt_of_not-le, not-le_of_lt, lt_of_le_of_lt}
use native.Mathlib.Omega.{arith}
use borrow.Author.Tests.{ltb-false}
use lib.Dec.{ltb, lit<}
use lib.IntN.{ℤ}
use lib.ListN.{length}
use Rattle.quantity.specs.Answers.{Reading, level, below_scale}
use Rattle.quantity.specs.Limits.{highest_sample, highest_day_level}
use Rattle.quantity.specs.Scale.{depth, depth_factor, raised, lowered, is_reading_outside}
use Rattle.quantity.specs.Lists.{Each}
use Rattle.quantity.specs.Rules.{first_of, Outcome, refused, given, outcome}
use Rattle.quantity.proofs.Lists.{each_map}
use Rattle.quantity.proofs.Outcomes.{given_value}
use Rattle.quantity.proofs.Refusing.{skip, stop, end}
use Rattle.quantity.proofs.Scale.{raised_lowered, lowered_on_scale, inside}
use Rattle.quantity.proofs.Tests.{neither}
use Rattle.power.specs.Power.{X, e, G}
use Rattle.power.proofs.Scale.{e_positive, e_mono, e_higher, e_step, e_below_next_X}
use Rattle.level.specs.Level.{height_of, reading_at, largest_level, level_of}
use Rattle.level.specs.Accuracy.{weighted, Reaches, IsBelow}
use Rattle.level.proofs.Answer.{Answers, answers, said, OnLevel, said_level, below_not_level}
use Rattle.level.proofs.Bounds.{exact_low, reaches}
use Rattle.clock.specs.Clock.{day_ticks}
use Rattle.clock.specs.declared.Rate.{Rate}
use Rattle.clock.specs.declared.Rate.TheVariants.{Ten, Twenty, Forty}
use Rattle.clock.proofs.Rates.{rate_least, ticks_positive}
use Rattle.ledger.specs.declared.Day.{Day}
use Rattle.closing.specs.Formula.{formula_one}
use Rattle.closing.specs.Close.{Closing, close_rules, closed}
use Rattle.mean.specs.Mean.{is_count_wrong, any_outside, power_of, sum_of_powers, mean_of, mean_rules}
use Rattle.mean.specs.Records.{readings, DayReading}
use Rattle.accuracy.specs.Tally.{Held, started, tally_counts, held_samples}
use Rattle.accuracy.specs.Hours.{held_energy}
use Rattle.accuracy.specs.Terminal.{day_of, tally_in, held_in, rate_in}
use Rattle.accuracy.specs.Means.{ClosedDay, Measured, Quiet, rate_weight, mean_weight, mean_ticks, records_of, day_samples, samples_of, MeanAccurate, MeanDemanded, MeanClaim, QuietLaw, Demand3}
use Rattle.accuracy.proofs.Sums.{weighted_held, weighted_append, both_periods}
use Rattle.accuracy.proofs.Agreement.{Agrees, energy_most}
use Rattle.accuracy.proofs.Closings.{tally_answer, closed_same}
use Rattle.accuracy.specs.Laws.{WithinReach, period_energy}
use Rattle.accuracy.proofs.Held.{last_end, last_within}
use Rattle.accuracy.proofs.Claim.{agree, settings_in_tally, claim}

-- one day

agrees : (d : ClosedDay) → Agrees (tally_in d.day) (day_of d.day)
agrees d = agree d.day.opening d.day.opens d.day.calls

-- its energy with the weights of method one
abbrev day_energy : ClosedDay → ℕ
day_energy d = (formula_one (rate_in d.day)).daytime * period_energy true (held_in d.day) + (formula_one (rate_in d.day)).night * period_energy false (held_in d.day)

-- the level of a measured day is that of this energy
day_level : (d : ClosedDay) (m : Measured d) → level_of 0 (day_ticks (rate_in d.day)) (day_energy d) ≡ level m.ldn
day_level d m =
    let a = agrees d in
    let t = tally_in d.day in
    let n = first_of (close_rules d.before d.after (tally_counts t)) in
    let same : tally_answer t n ≡ given d.closing =
    sym (closed_same a.bounded d.before d.after) ∙ ap (λ (day : Day). closed day d.before d.after) (sym a.same) ∙ d.closes in
    let c = (given_value n same).1 in
    rw (ap (λ (x : Closing). x.method) c ∙ m.by_method_one, settings_in_tally (started d.day.opening) d.day.calls) at
    (ap (λ (x : Closing). x.ldn) c ∙ m.on_scale)

module _ (d : ClosedDay) (m : Measured d) where
  bounds : OnLevel 0 (day_ticks (rate_in d.day)) (depth_factor * day_energy d) m.ldn
  bounds = said_level 0 (day_ticks (rate_in d.day)) (depth_factor * day_energy d) (ticks_positive (rate_in d.day)) (day_level d m)

  day_reaches : day_ticks (rate_in d.day) * e (raised m.ldn) ≤ depth_factor * day_energy d
  day_reaches = (simp add-zero at bounds.reached)

  day_below : depth_factor * day_energy d < day_ticks (rate_in d.day) * e (raised m.ldn + 1)
  day_below = (simp add-zero at bounds.missed)

-- in a mean a day of any rate counts as one of the fastest
as_fastest : (rate : Rate) → rate_weight rate * day_ticks rate ≡ mean_ticks
as_fastest Ten = refl
as_fastest Twenty = refl
as_fastest Forty = refl

raised_ticks : (rate : Rate) (n : ℕ) → rate_weight rate * (day_ticks rate * n) ≡ mean_ticks * n
raised_ticks rate n = sym (mul_assoc (rate_weight rate) (day_ticks rate) n) ∙ ap (λ (k : ℕ). k * n) (as_fastest rate)

raised_energy : (d : ClosedDay) → weighted e (day_samples d) ≡ rate_weight (rate_in d.day) * day_energy d
raised_energy d = weighted_held (mean_weight (rate_in d.day)) (held_in d.day) ∙ omega arith

-- what a reading adds to a sum of g over raised levels
abbrev at : (ℕ → ℕ) → Reading → ℕ
at g (level r) = g (raised r)
at g below_scale = 0

abbrev Stands : ClosedDay → Type 0
Stands d = Measured d ⊎ Quiet d

-- the samples of a day reach its level, and stay below the next
reached_day : (d : ClosedDay) → Stands d → mean_ticks * at e d.closing.ldn ≤ depth_factor * weighted e (day_samples d)
reached_day d =
    ⊎_elim
    (λ m.
    let q = rate_weight (rate_in d.day) in
    omega (arith, ap (at e) m.on_scale, raised_energy d, raised_ticks (rate_in d.day) (e (raised m.ldn)), mul-le-mul_left q (day_reaches d m)))
    (λ q. omega (arith, ap (at e) q.is_below_scale))

no_samples : (d : ClosedDay) → Quiet d → weighted e (day_samples d) ≡ 0
unfolding weighted
no_samples d q = ap (λ (hs : List Held). weighted e (held_samples (mean_weight (rate_in d.day)) hs)) q.none

held_day : (d : ClosedDay) → Stands d → depth_factor * weighted e (day_samples d) ≤ mean_ticks * at (λ c. e (c + 1)) d.closing.ldn
held_day d =
    ⊎_elim
    (λ m.
    let q = rate_weight (rate_in d.day) in
    let next : at (λ c. e (c + 1)) d.closing.ldn ≡ e (raised m.ldn + 1) = ap (at (λ c. e (c + 1))) m.on_scale in
    omega (arith, raised_energy d, raised_ticks (rate_in d.day) (e (raised m.ldn + 1)), mul-le-mul_left q (le_of_lt (day_below d m))))
    (λ q. omega (arith, no_samples d q))

step_day : (r : Reading) → at (λ c. e (c + 1)) r * (G * G) ≤ at e r * ((G + 1) * 1002305239)
step_day (level r) = omega (arith, e_step (raised r))
step_day below_scale = omega arith

-- sums over the days

-- the sum of g over the days' raised levels
levels : (ℕ → ℕ) → List ClosedDay → ℕ
levels g [] = 0
levels g (d ∷ ds) = at g d.closing.ldn + levels g ds

-- the sum of e over the days is that of their records
power_at : (r : Reading) → power_of r ≡ at e r
power_at (level r) = refl
power_at below_scale = refl

records_sum : (days : List ClosedDay) → sum_of_powers (readings (records_of days)) ≡ levels e days
unfolding levels sum_of_powers readings
records_sum [] = refl
records_sum (d ∷ ds) = rw (ap (λ (r : DayReading). r.level) d.holds, records_sum ds, power_at d.closing.ldn)

records_count : (days : List ClosedDay) → length (readings (records_of days)) ≡ length days
unfolding readings
records_count [] = refl
records_count (d ∷ ds) = ap suc (records_count ds)

reached : (days : List ClosedDay) → Each Stands days → mean_ticks * levels e days ≤ depth_factor * weighted e (samples_of days)
unfolding levels weighted
reached [] all = omega arith
reached (d ∷ ds) all = rw (weighted_append e (day_samples d) (samples_of ds)) (omega (arith, reached ds all.1, reached_day d all.0))

held : (days : List ClosedDay) → Each Stands days → depth_factor * weighted e (samples_of days) ≤ mean_ticks * levels (λ c. e (c + 1)) days
unfolding levels weighted
held [] all = omega arith
held (d ∷ ds) all = rw (weighted_append e (day_samples d) (samples_of ds)) (omega (arith, held ds all.1, held_day d all.0))

steps : (days : List ClosedDay) → levels (λ c. e (c + 1)) days * (G * G) ≤ levels e days * ((G + 1) * 1002305239)
unfolding levels
steps [] = omega arith
steps (d ∷ ds) = omega (arith, steps ds, step_day d.closing.ldn)

-- the mean

-- the errors of e, of the step to the next level and of the mantissa at 1 come to less than 3 parts in G
three : (y z : ℕ) → 1002305238 * y < (G + 1) * 1002305239 * z → (G + 1) * y < G * (G + 3) * z
three y z h = omega arith

module _ (K h : ℕ) (days : List ClosedDay) (stand : Each Stands days) (some_day : 0 < length days) (all : Answers 0 (length days) (levels e days) (some h)) where
  mean_reaches : Reaches 3 K (mean_ticks * length days) (samples_of days) h
  mean_reaches =
      let low : length days * e h ≤ levels e days = (simp add-zero at all).0 in
      omega (arith, reaches K (samples_of days) (mean_ticks * length days) h (omega (arith, reached days stand)))

  top : 1002305238 * (levels e days * 10 ^ K) < length days * (X K (h + 2) + 1) * (G * G)
  top =
      let high : levels e days < length days * e (h + 1) = (simp add-zero at all).1 in
      let last : e (h + 1) * 1002305238 * 10 ^ K < (X K (h + 2) + 1) * (G * G) = rw (add_assoc h 1 1) at (e_below_next_X K (h + 1)) in
      omega (arith, mul-le-mul_right (10 ^ K) high, mul-lt-mul_of_pos_left last some_day)

  next : ℕ
  next = levels (λ c. e (c + 1)) days

  exact : G * G * (depth_factor * weighted (X K) (samples_of days)) ≤ mean_ticks * (G + 1) * (next * 10 ^ K)
  unfolding next
  exact = omega (arith, exact_low K (samples_of days), mul-le-mul_right (10 ^ K) (held days stand))

  mean_below : IsBelow 3 K (mean_ticks * length days) (samples_of days) (h + 2)
  unfolding next
  mean_below =
      let z = length days * (X K (h + 2) + 1) in
      omega (arith, exact, three (next * 10 ^ K) z (omega (arith, mul-le-mul_right (10 ^ K) (steps days), top)))

  mean_on_scale : MeanAccurate K days (level (lowered h))
  mean_on_scale = rw (raised_lowered h) (simp add-zero (lowered_on_scale h, mean_reaches, mean_below))

-- measured days have a mean on the scale
stands : (days : List ClosedDay) → Each Measured days → Each Stands days
stands = each_map (λ d. inl)

on_scale : (days : List ClosedDay) → Each Measured days → length days * e 0 ≤ levels e days
unfolding levels
on_scale [] all = omega arith
on_scale (d ∷ ds) all = rw all.0.on_scale (omega (arith, on_scale ds all.1, e_mono {c = 0} {d = raised all.0.ldn} zero-le))

mean_accurate : (K : ℕ) (days : List ClosedDay) → Each Measured days → 0 < length days → MeanAccurate K days (largest_level 0 (length days) (levels e days))
mean_accurate K days all some_day = go (height_of 0 (length days) (levels e days)) (answers 0 (length days) (levels e days) some_day)
  where
    go : (a : Option ℕ) → Answers 0 (length days) (levels e days) a → MeanAccurate K days (reading_at a)
    go (some h) b = mean_on_scale K h days (stands days all) some_day b
    go none b = absurd (not-le_of_lt b (on_scale days all))

-- the claim

-- the last stretch of a day ends by an instant of no more than 10^4 days
last_low : (d : ClosedDay) → last_end (held_in d.day) ≤ 10 ^ 4 * day_ticks (rate_in d.day)
last_low d =
    let rate = rate_in d.day in
    let within : WithinReach rate (held_in d.day) = rw (settings_in_tally (started d.day.opening) d.day.calls) at (agrees d).bounded.within in
    omega (arith, last_within rate (held_in d.day) within, rate_least rate)

-- no day's level is outside: with a top level's power of T for each tick up to the last, the energy stays below that of 110 dB more for each tick of a day
far_below : (T ticks last energy : ℕ) → 0 < T * ticks → energy ≤ T * last → last ≤ 10 ^ 4 * ticks → 10 ^ 6 * energy < ticks * (10 ^ 11 * T)
far_below T ticks last energy p h k = omega (arith, mul-le-mul_left T k)

low_level : (d : ClosedDay) (m : Measured d) → raised m.ldn ≤ highest_day_level + depth
low_level d m =
    let rate = rate_in d.day in
    let ticks = day_ticks rate in
    let held = held_in d.day in
    let far : e 25000 ≡ 10 ^ 11 * e highest_sample = e_higher 11 highest_sample in
    let below = far_below (e highest_sample) ticks (last_end held) (held_energy held) (mul-pos (e_positive highest_sample) (ticks_positive rate)) (energy_most (agrees d).bounded) (last_low d) in
    let reached : ticks * e (raised m.ldn) ≤ 10 ^ 6 * held_energy held = omega (arith, both_periods held, day_reaches d m) in
    let higher : 25001 ≤ raised m.ldn → ⊥ =
    λ l. not-le_of_lt (lt_of_le_of_lt reached below) (rw far at (mul-le-mul_left ticks (e_mono {c = 25000} {d = raised m.ldn} (omega arith)))) in
    omega (arith, lt_of_not-le higher)

fits_record : (d : ClosedDay) → Stands d → is_reading_outside d.closing.ldn ≡ false
fits_record d = ⊎_elim (λ m. rw m.on_scale (inside m.ldn (bounds d m).scale (low_level d m))) (λ q. rw q.is_below_scale)

none_outside : (days : List ClosedDay) → Each Stands days → any_outside (readings (records_of days)) ≡ false
unfolding any_outside readings
none_outside [] all = refl
none_outside (d ∷ ds) all = rw (ap (λ (r : DayReading). r.level) d.holds, fits_record d all.0) (none_outside ds all.1)

module _ (fewest most : ℕ) (positive : 0 < fewest) (days : List ClosedDay) where
  -- a right number of days is above 0
  some_days : is_count_wrong fewest most (length days) ≡ false → 0 < length days
  some_days h =
      let few = ltb-false (length days) fewest (neither (ltb (length days) fewest) (ltb most (length days)) h).0 in
      omega arith

  -- what a mean of such days answers
  abbrev answer_by : Bool → Outcome Reading
  answer_by v = outcome (first_of (mean_rules v false)) (largest_level 0 (length days) (levels e days))

  mean_same : Each Stands days → mean_of fewest most (readings (records_of days)) ≡ answer_by (is_count_wrong fewest most (length days))
  unfolding mean_of
  mean_same all = rw (records_count days, none_outside days all, records_sum days)

  refused_by : answer_by true ≡ refused 13
  refused_by = rw (stop (record { number = 13; refuses = true }) (record { number = 14; refuses = false } ∷ []) refl)

  given_by : answer_by false ≡ given (largest_level 0 (length days) (levels e days))
  given_by = rw (skip (record { number = 13; refuses = false }) (record { number = 14; refuses = false } ∷ []) refl, skip (record { number = 14; refuses = false }) [] refl, end)

  mean_demanded : Each Measured days → (K : ℕ) → MeanDemanded fewest most K days (mean_of fewest most (readings (records_of days)))
  mean_demanded all K = rw (mean_same (stands days all)) (go (is_count_wrong fewest most (length days)) refl)
    where
      go : (v : Bool) → is_count_wrong fewest most (length days) ≡ v → MeanDemanded fewest most K days (answer_by v)
      go true h = rw refused_by (refl, h)
      go false h = rw given_by (h, mean_accurate K days all (some_days h))

  mean_quiet : Each Stands days → (K : ℕ) (r : ℤ) → mean_of fewest most (readings (records_of days)) ≡ given (level r) → MeanAccurate K days (level r)
  mean_quiet all K r h = go (is_count_wrong fewest most (length days)) refl (sym (mean_same all) ∙ h)
    where
      by_height : (a : Option ℕ) → height_of 0 (length days) (levels e days) ≡ a → 0 < length days → reading_at a ≡ level r → MeanAccurate K days (reading_at a)
      by_height (some h) q d z = mean_on_scale K h days all d (said 0 (length days) (levels e days) d q)
      by_height none q d z = absurd (below_not_level z)

      go : (v : Bool) → is_count_wrong fewest most (length days) ≡ v → answer_by v ≡ given (level r) → MeanAccurate K days (level r)
      go true w g = absurd (let f = sym refused_by ∙ g in let z : ◌≡◌ {A = ℕ} 0 1 = cc in omega arith)
      go false w g =
          let f = sym given_by ∙ g in
          let l : largest_level 0 (length days) (levels e days) ≡ level r = cc in
          subst (MeanAccurate K days) l (by_height (height_of 0 (length days) (levels e days)) refl (some_days w) l)

-- demand 3 for means
pub mean_claim : MeanClaim
unfolding MeanClaim
mean_claim K days all = (mean_demanded 7 7 (lit< tt) days all K, mean_demanded 1 366 (lit< tt) days all K)

-- and quiet days among the others
pub quiet_law : QuietLaw
unfolding QuietLaw
quiet_law K days all r = (mean_quiet 7 7 (lit< tt) days all K r, mean_quiet 1 366 (lit< tt) days all K r)

-- demand 3, whole
pub demand3 : Demand3
unfolding Demand3
demand3 = (claim, mean_claim)
