-- What a level says of the exact sum: both bounds of demand 3, for any weighted samples.
use mathlib.Core.List.{List, [], ◌∷◌}
use mathlib.Core.Option.{Option, some, none}
use Prim.Native.Nat.{ℕ, ◌+◌, ◌*◌, ◌^◌, ◌≤◌, ◌<◌}
use native.Mathlib.Nat.{one-le-pow, mul-le-mul_left, mul-le-mul_right, mul-lt-mul_of_pos_right}
use native.Mathlib.Omega.{arith}
use lib.Dec.{lit<}
use Rattle.quantity.specs.Scale.{depth_factor}
use Rattle.quantity.proofs.Scale.{raised_lowered, lowered_on_scale}
use Rattle.power.specs.Power.{X, e, G}
use Rattle.power.proofs.Scale.{X_below_e, e_below_X}
use Rattle.level.specs.Level.{height_of, reading_at, level_of}
use Rattle.level.specs.Accuracy.{Sample, weighted, Reaches, IsBelow, Accurate}
use Rattle.level.proofs.Answer.{Answers, answers}

-- sums in proportion, sample by sample
pub weighted_le : (a b : ℕ) (f g : ℕ → ℕ) → ((c : ℕ) → f c * a ≤ g c * b) → (ss : List Sample) → weighted f ss * a ≤ weighted g ss * b
unfolding weighted
weighted_le a b f g h [] = omega arith
weighted_le a b f g h (s ∷ ss) = omega (arith, mul-le-mul_left s.weight (h s.at), weighted_le a b f g h ss)

module _ (K : ℕ) (samples : List Sample) where
  -- the sum of e against the sums of X and of X + 1
  pub exact_low : weighted (X K) samples * (G * G) ≤ weighted e samples * ((G + 1) * 10 ^ K)
  exact_low = weighted_le (G * G) ((G + 1) * 10 ^ K) (X K) e (λ c. omega (arith, X_below_e K c)) samples

  pub exact_high : weighted e samples * 10 ^ K ≤ weighted (λ c. X K c + 1) samples * G
  exact_high = weighted_le (10 ^ K) G e (λ c. X K c + 1) (λ c. omega (arith, e_below_X K c)) samples

  module _ (M c : ℕ) where
    pub reaches : M * e c ≤ depth_factor * weighted e samples → Reaches 1 K M samples c
    reaches h = omega (arith, exact_high, mul-le-mul_right (10 ^ K) h, mul-le-mul_left M (X_below_e K c))

    pub is_below : depth_factor * weighted e samples < M * e c → IsBelow 1 K M samples c
    is_below h = omega (arith, exact_low, mul-lt-mul_of_pos_right h (one-le-pow K 10 (lit< tt)), mul-le-mul_left M (e_below_X K c))

  -- demand 3 of the level of any weighted samples, with any offset
  pub accurate : (d M : ℕ) → 0 < M → Accurate 1 1 d K M samples (level_of d M (weighted e samples))
  accurate d M p = go (height_of d M (depth_factor * weighted e samples)) (answers d M (depth_factor * weighted e samples) p)
    where
      go : (a : Option ℕ) → Answers d M (depth_factor * weighted e samples) a → Accurate 1 1 d K M samples (reading_at a)
      go (some h) b = (lowered_on_scale h, rw (raised_lowered h) (reaches M (h + d) b.0), rw (raised_lowered h) (is_below M (h + 1 + d) b.1))
      go none b = is_below M d b
