-- Document 01, 'Powers', and document 02, W-210: what demand 3 says of a level r, for every count K of decimal places.
use Rattle.std.specs.Prelude.{List, [], ◌∷◌, ℕ, ◌+◌, ◌*◌, ◌≤◌, ◌<◌}
use Rattle.quantity.specs.Answers.{Reading, level, below_scale}
use Rattle.quantity.specs.Scale.{depth_factor, raised, OnScale}
use Rattle.power.specs.Power.{X, G}

-- a sample's level, and the weight w with which it is summed
pub record Sample : Type 0 where
  pub weight : ℕ
  pub at : ℕ

-- the sum of w * g(c) over the samples
unfoldable pub weighted : (ℕ → ℕ) → List Sample → ℕ
weighted g [] = 0
weighted g (s ∷ ss) = s.weight * g s.at + weighted g ss

-- samples that all have one weight
abbrev pub weigh : ℕ → List ℕ → List Sample
weigh w [] = []
weigh w (c ∷ cs) = record { weight = w; at = c } ∷ weigh w cs

-- W-210: each sum is multiplied by 100000, and every level that is compared with it is raised by 5000. Here c is a raised level.

-- the exact sum over M, raised by some parts in G, reaches the exact power at level c
abbrev pub Reaches : (parts K M : ℕ) → List Sample → ℕ → Type 0
Reaches parts K M samples c = G * M * X K c ≤ (G + parts) * (depth_factor * weighted (λ l. X K l + 1) samples)

-- the exact sum over M is below the exact power at level c, raised by some parts in G
abbrev pub IsBelow : (parts K M : ℕ) → List Sample → ℕ → Type 0
IsBelow parts K M samples c = G * (depth_factor * weighted (X K) samples) < (G + parts) * M * (X K c + 1)

-- both bounds of an answer on the scale: r is reached, and the level `step` further is not; below scale only the second is said, with -5000 for r + step, so 0
-- when raised. The offset d is added to the levels of the answer, not to those of the samples.
abbrev pub Accurate : (parts step d K M : ℕ) → List Sample → Reading → Type 0
Accurate parts step d K M samples (level r) =
    OnScale r × Reaches parts K M samples (raised r + d) × IsBelow parts K M samples (raised r + step + d)
Accurate parts step d K M samples below_scale = IsBelow parts K M samples d
