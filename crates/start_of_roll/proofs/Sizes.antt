-- From 0 to 180 degrees every step of B.14 and B.15 is finite: no sum and no product is large enough to overflow.
use mathlib.Core.Path.{◌≡◌}
use mathlib.Core.Bool.{true}
use Prim.Native.Nat.{ℕ, ◌+◌, ◌^◌, ◌≤◌}
use lib.Dec.{lit≤}
use lib.Ieee.{Float, binary64, prec, round}
use Rattle.floats.specs.Arithmetic.{float_of, decimal, ◌+ᶠ◌, ◌-ᶠ◌, ◌*ᶠ◌, within}
use Rattle.floats.proofs.Ranges.{up_to_nonnegative, up_to_most}
use Rattle.floats.proofs.Bounded.{AtMost, of_nonnegative, times, plus, minus}
use Rattle.start_of_roll.specs.Correction.{square, cube, beside_at, behind_at}

-- ---- a sum of four terms, whatever their signs

-- adding or subtracting, sizes add up
abbrev Joins : (Float → Float → Float) → Type 0
Joins join = (A B : ℕ) (x y : Float) → AtMost A x → AtMost B y → A + B ≤ 2 ^ prec binary64 → AtMost (A + B) (join x y)

module _ (θ : Float) (h : within (float_of 0) (float_of 180) θ ≡ true) where
  angle : AtMost 180 θ
  angle = of_nonnegative 180 θ (up_to_nonnegative 180 (lit≤ tt) θ h) (up_to_most 180 (lit≤ tt) θ h)

  squared : AtMost 32400 (square θ)
  squared = times 180 180 θ θ angle angle (lit≤ tt)

  cubed : AtMost 5832000 (cube θ)
  cubed = times 32400 180 (square θ) θ squared angle (lit≤ tt)

  four_terms : (join join' : Float → Float → Float) → Joins join → Joins join' → (a b c d : Float) → AtMost 340 a → AtMost 3 b → AtMost 1 c → AtMost 1 d
      → AtMost 5865280 (join' (join (a -ᶠ b *ᶠ θ) (c *ᶠ square θ)) (d *ᶠ cube θ))
  four_terms join join' j j' a b c d A B C D =
      j' 33280 5832000 _ _
      (j 880 32400 _ _
      (minus 340 540 _ _ A (times 3 180 b θ B angle (lit≤ tt)) (lit≤ tt))
      (times 1 32400 c (square θ) C squared (lit≤ tt)) (lit≤ tt))
      (times 1 5832000 d (cube θ) D cubed (lit≤ tt)) (lit≤ tt)

-- ---- the two formulas

-- the size of a constant, computed
abbrev Size : ℕ → (digits places : ℕ) → Type 0
Size B digits places = AtMost B (decimal digits places)

beside_constants : Size 340 5144 2 × Size 3 1553 3 × Size 1 15147 6 × Size 1 47173 9
unfolding decimal round
beside_constants = (lit≤ tt, lit≤ tt, lit≤ tt, lit≤ tt)

behind_constants : Size 340 33918 2 × Size 3 25802 4 × Size 1 45545 7 × Size 1 44193 9
unfolding decimal round
behind_constants = (lit≤ tt, lit≤ tt, lit≤ tt, lit≤ tt)

module _ (θ : Float) (h : within (float_of 0) (float_of 180) θ ≡ true) where
  pub beside_at_most : AtMost 5865280 (beside_at θ)
  unfolding beside_at
  beside_at_most = let k = beside_constants in four_terms θ h ◌+ᶠ◌ ◌-ᶠ◌ plus minus _ _ _ _ k.0 k.1 k.2 k.3

  pub behind_at_most : AtMost 5865280 (behind_at θ)
  unfolding behind_at
  behind_at_most = let k = behind_constants in four_terms θ h ◌-ᶠ◌ ◌+ᶠ◌ minus plus _ _ _ _ k.0 k.1 k.2 k.3
