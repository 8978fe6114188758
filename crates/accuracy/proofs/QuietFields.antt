-- Levels of 0 and above are those of before: 50 dB are five whole decades, so the power of a level that is raised by 5000 is 100000 times its power.
use mathlib.Core.Path.{◌≡◌, refl, sym, ap, ap₂, ◌∙◌}
use mathlib.Core.Bool.{◌||◌}
use Rattle.std.proofs.Math.Bool.{or-false}
use mathlib.Core.List.{List, [], ◌∷◌, map}
use mathlib.Core.Option.{Option, some, none}
use Prim.Native.Nat.{ℕ, zero, suc, ◌+◌, ◌*◌, ◌≤◌, ◌<◌}
use native.Mathlib.Nat.{mul_left_comm, mul-le-mul_left, mul-lt-mul_of_pos_left, lt_of_not-le, not-le_of_lt, le_trans}
use native.Mathlib.Omega.{arith}
use borrow.Author.Rules.{rules}
use borrow.Author.Tests.{lt-ltb, ltb-false, not-false}
use lib.Dec.{ltb, lit<}
use lib.IntN.{pos}
use lib.ListN.{length, length-map}
use lib.Signed.{◌<ℤ◌}
use Rattle.quantity.specs.Answers.{level}
use Rattle.quantity.specs.Limits.{highest_day_level}
use Rattle.quantity.specs.Scale.{depth, depth_factor, lowered}
use Rattle.quantity.specs.Rules.{Rule, first_of, outcome}
use Rattle.quantity.proofs.Refusing.{pass}
use Rattle.quantity.proofs.Scale.{lowered_raised}
use Rattle.quantity.proofs.Tests.{neither}
use Rattle.power.specs.Power.{e}
use Rattle.power.proofs.Scale.{e_mono, e_higher}
use Rattle.level.specs.Level.{height_of, reading_at, level_of}
use Rattle.level.proofs.Answer.{Answers, answers, answered}
use Rattle.clock.specs.Clock.{samples_a_second}
use Rattle.clock.proofs.Rates.{rate_positive}
use Rattle.exposure.specs.Exposure.{energy_of}
use Rattle.ledger.specs.declared.Day.{Day}
use Rattle.admission.specs.Checks.{Offering, day_checks}
use Rattle.offering.specs.Offer.{offered_by, offered}
use Rattle.method.specs.Method.{Counts, method_by, counts_of}
use Rattle.closing.specs.Formula.{formula_by}
use Rattle.closing.specs.Close.{close_rules, closing_of, closed}
use Rattle.closing.specs.declared.Formula.{Formula}
use Rattle.ledger.specs.Day.{energy_in}
use Rattle.closing.proofs.Answers.{divisor_positive}
use Rattle.mean.specs.Mean.{is_count_wrong, any_outside, sum_of_powers, mean_rules, mean_of}
use Rattle.accuracy.specs.QuietFields.{level_before, exposure_before, ldn_before, sum_before, any_too_high, mean_before, same_today, Kept, KeptOutcome, level_in, QuietFieldsLaw}

-- the power of a raised level
e_raised : (c : ℕ) → e (depth + c) ≡ depth_factor * e c
e_raised = e_higher 5

raised_product : (M c : ℕ) → M * e (depth + c) ≡ depth_factor * (M * e c)
raised_product M c = rw (e_raised c) (mul_left_comm M depth_factor (e c))

-- a raised level that is less than 5000 is under 0
under_zero : (h : ℕ) → h < depth → lowered h <ℤ pos 0
under_zero h l = rw (lt-ltb h depth l) (record { lt = tt })

module _ (d M S : ℕ) (p : 0 < M) where
  below : S < M * e d → depth_factor * S < M * e (depth + d)
  below l = rw (raised_product M d) (mul-lt-mul_of_pos_left l (lit< tt))

  was_below : S < M * e d → (a : Option ℕ) → Answers d M (depth_factor * S) a → Kept none (reading_at a)
  was_below l (some h) (reached, missed) =
      under_zero h (lt_of_not-le (λ high. not-le_of_lt (below l) (le_trans (mul-le-mul_left M (e_mono (omega arith))) reached)))
  was_below l none missed = tt

  was_at : (r : ℕ) → (M * e (r + d) ≤ S) × (S < M * e (r + 1 + d)) → level_of d M S ≡ level (pos r)
  was_at r (reached, missed) =
      let this : depth + r + d ≡ depth + (r + d) = omega arith in
      let next : depth + r + 1 + d ≡ depth + (r + 1 + d) = omega arith in
      let low : M * e (depth + r + d) ≤ depth_factor * S = rw (this, raised_product M (r + d)) (mul-le-mul_left depth_factor reached) in
      let high : depth_factor * S < M * e (depth + r + 1 + d) = rw (next, raised_product M (r + 1 + d)) (mul-lt-mul_of_pos_left missed (lit< tt)) in
      ap reading_at (sym (answered d M (depth_factor * S) (some (depth + r)) p (low, high))) ∙ ap level (lowered_raised (pos r) refl)

  kept_level : Kept (level_before d M S) (level_of d M S)
  kept_level = go (height_of d M S) (answers d M S p)
    where
      go : (a : Option ℕ) → Answers d M S a → Kept a (level_of d M S)
      go (some r) said = was_at r said
      go none said = was_below said (height_of d M (depth_factor * S)) (answers d M (depth_factor * S) p)

-- offers, and closings
kept_offer : (day : Day) (o : Offering) → KeptOutcome (exposure_before day o) (level_in (λ a. a.exposure) (offered day o).answer)
kept_offer day o = go (first_of (day_checks day o))
  where
    go : (n : ℕ) → KeptOutcome (outcome n (level_before 0 (samples_a_second day.settings.rate) (energy_of o.samples))) (level_in (λ a. a.exposure) (offered_by n day o).answer)
    go zero = kept_level 0 (samples_a_second day.settings.rate) (energy_of o.samples) (rate_positive day.settings.rate)
    go (suc n) = refl

kept_closing : (day : Day) (before after : ℕ) → KeptOutcome (ldn_before day before after) (level_in (λ c. c.ldn) (closed day before after))
kept_closing day before after = go (first_of (close_rules before after c)) refl
  where
    c : Counts
    c = counts_of day

    f : Formula
    f = formula_by day.settings.rate (method_by c) c.totals

    S : ℕ
    S = f.daytime * energy_in day.daytime + f.night * energy_in day.night

    go : (n : ℕ) → first_of (close_rules before after c) ≡ n → KeptOutcome (outcome n (level_before f.offset f.divisor S)) (level_in (λ c. c.ldn) (outcome n (closing_of day)))
    go zero h = kept_level f.offset f.divisor S (divisor_positive day.settings.rate c (not-false _ (pass (close_rules before after c) (search rules) h).1.0))
    go (suc n) h = refl

-- means
kept_sum : (days : List (Option ℕ)) → sum_of_powers (map same_today days) ≡ depth_factor * sum_before days
unfolding sum_of_powers
kept_sum [] = refl
kept_sum (some r ∷ days) = omega (arith, e_raised r, kept_sum days)
kept_sum (none ∷ days) = omega (arith, kept_sum days)

kept_outside : (days : List (Option ℕ)) → any_outside (map same_today days) ≡ any_too_high days
unfolding any_outside
kept_outside [] = refl
kept_outside (some r ∷ days) = ap₂ ◌||◌ (or-false (ltb highest_day_level r)) (kept_outside days)
kept_outside (none ∷ days) = kept_outside days

kept_mean : (fewest most : ℕ) → 0 < fewest → (days : List (Option ℕ)) → KeptOutcome (mean_before fewest most days) (mean_of fewest most (map same_today days))
unfolding mean_of
kept_mean fewest most positive days = rw (length-map days same_today, kept_outside days, kept_sum days) (go (first_of checks) refl)
  where
    checks : List Rule
    checks = mean_rules (is_count_wrong fewest most (length days)) (any_too_high days)

    go : (n : ℕ) → first_of checks ≡ n → KeptOutcome (outcome n (level_before 0 (length days) (sum_before days))) (outcome n (level_of 0 (length days) (sum_before days)))
    go zero h =
        let right = neither (ltb (length days) fewest) (ltb most (length days)) (pass checks (search rules) h).0 in
        kept_level 0 (length days) (sum_before days) (omega (arith, ltb-false (length days) fewest right.0))
    go (suc n) h = refl

pub quiet_fields_law : QuietFieldsLaw
quiet_fields_law = record { levels = kept_level; offers = kept_offer; closings = kept_closing; means = kept_mean }
