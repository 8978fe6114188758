-- The errors of B.3 up to its quotient, over plain numbers: each operation adds one part in U, and half a unit where its exact result is no whole number of units.
-- A, B, D are the exact differences of the levels, of the thrusts F − f1 and of the thrusts f2 − f1; a, b, d, p, q are the computed ones, and the product and the quotient.
use mathlib.Core.Path.{◌≡◌, ap, ◌∙◌}
use Prim.Native.Nat.{ℕ, ◌+◌, ◌*◌, ◌≤◌, ◌<◌}
use native.Mathlib.Nat.{le_trans, le_of_eq, mul-zero, mul_comm, mul-le-mul, mul-le-mul_left, mul-le-mul_right, le_of_mul-le-mul_right}
use native.Mathlib.Omega.{arith}
use lib.Dec.{lit≤}
use Rattle.float_units.proofs.Rounding.{U, Close, Parts, Whole}
use Rattle.float_units.proofs.Parts.{of, whole_above, whole_below, grown, half}
use Rattle.thrust_accuracy.specs.Distance.{least_apart}

-- ---- up to the rounded product: X is A × B, M is D × W, P is p × W

pub record Second (X M W P : ℕ) : Type 0 where
  pub above : 2 * (U * P) ≤ 2 * (U * X) + 1122 * M + U * W
  pub below : 2 * (U * X) ≤ 2 * (U * P) + 1122 * M + U * W

-- in the lemmas of plain numbers Ux stands for U × x, so that omega need not multiply by U
second_above : (X M ab Uab UX UP UW : ℕ) → X ≤ 140 * M → ab ≤ 141 * M → Uab ≤ UX + 3 * X → 2 * UP ≤ 2 * Uab + 2 * ab + UW → 2 * UP ≤ 2 * UX + 1122 * M + UW
second_above X M ab Uab UX UP UW h k t a = omega arith

second_below : (X M ab Uab UX UP UW : ℕ) → X ≤ 140 * M → ab ≤ 141 * M → UX ≤ Uab + 3 * X → 2 * Uab ≤ 2 * UP + 2 * ab + UW → 2 * UX ≤ 2 * UP + 1122 * M + UW
second_below X M ab Uab UX UP UW h k t a = omega arith

-- ab is the product of the computed differences
pub second : (X M W ab p : ℕ) → X ≤ 140 * M → Parts 3 X 1 ab → Close ab W p → Second X M W (p * W)
second X M W ab p h t c =
    let k = most X M ab h (grown 1000 (lit≤ tt) t) in
    record {
      above = second_above X M ab (U * ab) (U * X) (U * (p * W)) (U * W) h k (whole_above t) c.above;
      below = second_below X M ab (U * ab) (U * X) (U * (p * W)) (U * W) h k (whole_below t) c.below;
    }
  where
    most : (X M ab : ℕ) → X ≤ 140 * M → 1000 * (ab * 1) ≤ 1000 * X + X → ab ≤ 141 * M
    most X M ab h k = omega arith

-- however near the thrusts are, the product is at most 142 M
pub second_most : (X M W P : ℕ) → X ≤ 140 * M → W ≤ M → Second X M W P → P ≤ 142 * M
second_most X M W P h k s = omega (arith, s.above)

-- ---- up to the rounded quotient: Q is q × D, Qd is q × d

pub record Third (X M Q : ℕ) : Type 0 where
  pub above : U * Q ≤ U * X + 847 * M
  pub below : U * X ≤ U * Q + 847 * M

third_first : (M P Q UX UP UQ UQd UW Ud : ℕ) → P ≤ 142 * M → UW + Ud ≤ M → 2 * UP ≤ 2 * UX + 1122 * M + UW → 2 * UQd ≤ 2 * UP + 2 * P + Ud → UQ ≤ UQd + 1 * Q
    → 2 * UQ ≤ 2 * UX + 2 * Q + 1407 * M
third_first M P Q UX UP UQ UQd UW Ud m r s a f = omega arith

third_most : (X M Q : ℕ) → X ≤ 140 * M → 2 * (U * Q) ≤ 2 * (U * X) + 2 * Q + 1407 * M → Q ≤ 143 * M
third_most X M Q h k = omega arith

third_above : (M Q UX UQ : ℕ) → Q ≤ 143 * M → 2 * UQ ≤ 2 * UX + 2 * Q + 1407 * M → UQ ≤ UX + 847 * M
third_above M Q UX UQ h k = omega arith

third_below : (M P Q UX UP UQ UQd UW Ud : ℕ) → P ≤ 142 * M → Q ≤ 143 * M → UW + Ud ≤ M → 2 * UX ≤ 2 * UP + 1122 * M + UW → 2 * UP ≤ 2 * UQd + 2 * P + Ud → UQd ≤ UQ + 1 * Q
    → UX ≤ UQ + 847 * M
third_below M P Q UX UP UQ UQd UW Ud m n r s b e = omega arith

pub third : (X M W P D d q : ℕ) → X ≤ 140 * M → P ≤ 142 * M → U * W + U * d ≤ M → Second X M W P → Close P d q → Whole D d → Third X M (q * D)
third X M W P D d q h m r s c w =
    let e = of q w in
    let k = third_first M P (q * D) (U * X) (U * P) (U * (q * D)) (U * (q * d)) (U * W) (U * d) m r s.above c.above (whole_below e) in
    let n = third_most X M (q * D) h k in
    record {
      above = third_above M (q * D) (U * X) (U * (q * D)) n k;
      below = third_below M P (q * D) (U * X) (U * P) (U * (q * D)) (U * (q * d)) (U * W) (U * d) m n r s.below c.below (whole_above e);
    }

-- ---- from the numbers to the products above

pub product_most : (A B D W : ℕ) → A ≤ 140 * W → B ≤ D → A * B ≤ 140 * (D * W)
product_most A B D W h k = omega (arith, mul-le-mul h k)

-- no difference becomes none
pub positive : (Z g : ℕ) → 0 < Z → Whole Z g → 0 < g
positive Z g h w = omega (arith, half (lit≤ tt) w)

-- the rounded product over one W less
pub over_one : (x W p : ℕ) → 0 < W → Close (x * W) (W * W) p → Close x W p
over_one x W p w c = record { above = le_of_mul-le-mul_right {k = W} (omega (arith, c.above)) w; below = le_of_mul-le-mul_right {k = W} (omega (arith, c.below)) w }

pub quotient_most : (p W D d : ℕ) → 0 < W → p * W ≤ 142 * (D * W) → Whole D d → p ≤ 284 * d
quotient_most p W D d w h k = le_of_mul-le-mul_right {k = W} (omega (arith, h, mul-le-mul_right W (half (lit≤ tt) k))) w

pub rounded_most : (q p W d : ℕ) → 0 < W → 0 < d → p ≤ 284 * d → Close (p * W) d q → q ≤ 285 * W
rounded_most q p W d w e h c =
    let most : 2 * (U * q) ≤ 568 * (U * W) + 568 * W + U = le_of_mul-le-mul_right {k = d} (omega (arith, c.above, mul-le-mul_right W h)) e in
    omega arith

-- where the thrusts are 2^74 units apart, half a unit is no matter
apart_by : (W D d M : ℕ) → least_apart * W ≤ M → least_apart * D ≤ M → d ≤ D + D → U * W + U * d ≤ M
apart_by W D d M h k l = omega arith

pub apart : (W D d : ℕ) → least_apart ≤ D → least_apart ≤ W → Whole D d → U * W + U * d ≤ D * W
apart W D d h k w =
    apart_by W D d (D * W) (mul-le-mul_right W h) (le_trans (le_of_eq (mul_comm (least_apart) D)) (mul-le-mul_left D k)) (omega (arith, grown 1 (lit≤ tt) w))

-- ---- the exact value w, by the lower level: b is F − f1

pub top_up : (w L1 L2 A D b : ℕ) → w + L1 * b ≡ L1 * D + L2 * b → L2 ≡ L1 + A → w ≡ L1 * D + A * b
top_up w L1 L2 A D b h e = omega (arith, h, ap (λ (z : ℕ). z * b) e)

pub top_down : (w L1 L2 A D b : ℕ) → w + L1 * b ≡ L1 * D + L2 * b → L1 ≡ L2 + A → w + A * b ≡ L1 * D
top_down w L1 L2 A D b h e = omega (arith, h, ap (λ (z : ℕ). z * b) e)

-- where F is the lower thrust nothing is added
pub top_still : (w L1 L2 A D b : ℕ) → w + L1 * b ≡ L1 * D + L2 * b → b ≡ 0 → (w ≡ L1 * D + A * b) × (w + A * b ≡ L1 * D)
top_still w L1 L2 A D b h e =
    let l1 : L1 * b ≡ 0 = ap (λ (z : ℕ). L1 * z) e ∙ mul-zero L1 in
    let l2 : L2 * b ≡ 0 = ap (λ (z : ℕ). L2 * z) e ∙ mul-zero L2 in
    let a : A * b ≡ 0 = ap (λ (z : ℕ). A * z) e ∙ mul-zero A in
    (omega arith, omega arith)
