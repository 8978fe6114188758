-- The law: a correction that is given is near the exact value of its formula.
use mathlib.Core.Path.{◌≡◌, refl, subst}
use mathlib.Core.Bool.{Bool, true, false, cond}
use Prim.Native.Nat.{ℕ, ◌*◌, ◌^◌, ◌≤◌}
use native.Mathlib.Nat.{le_trans, le_of_eq, mul-le-mul_right, le_of_mul-le-mul_right}
use native.Mathlib.Omega.{arith}
use lib.Dec.{T, lit<, lit≤}
use lib.Ieee.{Float, binary64, fits, lt, le}
use lib.Ieee.Exact.{HasValue}
use lib.Ieee.Positive.{den_pos}
use borrow.Author.Tests.{not-false}
use Rattle.quantity.specs.Rules.{first_of}
use Rattle.quantity.proofs.Outcomes.{given_value}
use Rattle.quantity.proofs.Refusing.{pass}
use Rattle.floats.specs.Arithmetic.{float_of, decimal, within}
use Rattle.floats.proofs.Nonnegative.{Nonnegative}
use Rattle.floats.proofs.Ranges.{up_to_nonnegative, up_to_most, from_least}
use Rattle.float_units.specs.Units.{units_in_one as W, units_of, Near}
use Rattle.float_units.proofs.Units.{one_positive, cross, Sized, sized, units_most}
use Rattle.float_units.proofs.Sums.{plus, minus, near}
use Rattle.start_of_roll.specs.Correction.{in_front, beside, behind, square, cube, beside_at, behind_at, angle_rules, placed}
use Rattle.start_of_roll_accuracy.specs.Distance.{beside_plus, beside_minus, behind_plus, behind_minus, bottom, parts_in_one, NearExact, DistanceLaw}
use Rattle.start_of_roll_accuracy.proofs.Terms.{constant, Angle, Power, first, next, constant_term, term}

-- ---- the formulas at an angle of t units

module _ (θ : Float) (t : ℕ) (a : Angle θ t) where
  squared : Power (square θ) 2 (t * t) (1 * W) 32400
  squared = next (lit≤ tt) (lit≤ tt) (first a) a

  cubed : Power (cube θ) 4 (t * t * t) (1 * W * W) 5832000
  cubed = next (lit≤ tt) (lit≤ tt) squared a

  pub beside_near : Near parts_in_one (beside_at θ) (beside_plus t) (beside_minus t) bottom
  unfolding beside_at
  beside_near =
      let c0 = constant_term (10 ^ 7 * (W * W)) (omega arith) (constant 5144 2 52 (lit< tt, lit≤ tt, lit≤ tt, lit≤ tt)) in
      let c1 = term 280 (lit≤ tt, lit≤ tt, lit≤ tt) (constant 1553 3 2 (lit< tt, lit≤ tt, lit≤ tt, lit≤ tt)) (first a) (10 ^ 6 * (W * W)) (omega arith) in
      let c2 = term 491 (lit≤ tt, lit≤ tt, lit≤ tt) (constant 15147 6 1 (lit< tt, lit≤ tt, lit≤ tt, lit≤ tt)) squared (10 ^ 3 * W) (omega arith) in
      let c3 = term 276 (lit≤ tt, lit≤ tt, lit≤ tt) (constant 47173 9 1 (lit< tt, lit≤ tt, lit≤ tt, lit≤ tt)) cubed 1 (omega arith) in
      near parts_in_one (beside_plus t) (beside_minus t) (lit≤ tt) (minus (lit≤ tt) (plus (lit≤ tt) (minus (lit≤ tt) c0 c1) c2) c3) (omega arith)

  pub behind_near : Near parts_in_one (behind_at θ) (behind_plus t) (behind_minus t) bottom
  unfolding behind_at
  behind_near =
      let c0 = constant_term (10 ^ 7 * (W * W)) (omega arith) (constant 33918 2 340 (lit< tt, lit≤ tt, lit≤ tt, lit≤ tt)) in
      let c1 = term 465 (lit≤ tt, lit≤ tt, lit≤ tt) (constant 25802 4 3 (lit< tt, lit≤ tt, lit≤ tt, lit≤ tt)) (first a) (10 ^ 5 * (W * W)) (omega arith) in
      let c2 = term 148 (lit≤ tt, lit≤ tt, lit≤ tt) (constant 45545 7 1 (lit< tt, lit≤ tt, lit≤ tt, lit≤ tt)) squared (10 ^ 2 * W) (omega arith) in
      let c3 = term 258 (lit≤ tt, lit≤ tt, lit≤ tt) (constant 44193 9 1 (lit< tt, lit≤ tt, lit≤ tt, lit≤ tt)) cubed 1 (omega arith) in
      near parts_in_one (behind_plus t) (behind_minus t) (lit≤ tt) (plus (lit≤ tt) (minus (lit≤ tt) (minus (lit≤ tt) c0 c1) c2) c3) (omega arith)

-- ---- the angle of a correction that is given

module _ (θ : Float) (f : T (fits binary64 θ)) (h : within (float_of 0) (float_of 180) θ ≡ true) where
  nonnegative : Nonnegative θ
  nonnegative = up_to_nonnegative 180 (lit≤ tt) θ h

  least : lt θ (float_of 90) ≡ false → 2 * W ≤ units_of θ
  least l =
      le_of_mul-le-mul_right
      (le_trans (omega (arith, mul-le-mul_right W (from_least 90 (lit≤ tt) θ nonnegative l))) (le_of_eq (cross θ f)))
      (den_pos θ)

  angle : lt θ (float_of 90) ≡ false → Angle θ (units_of θ)
  angle l = go (sized θ nonnegative f) where
    go : Sized θ (units_of θ) → Angle θ (units_of θ)
    go s = record { value = positive s.sign s.value s.none; least = least l; most = units_most θ 180 f (up_to_most 180 (lit≤ tt) θ h) } where
      positive : (b : Bool) → HasValue θ b (units_of θ) W → (b ≡ true → units_of θ ≡ 0) → HasValue θ false (units_of θ) W
      positive false v z = v
      positive true v z = absurd (omega (arith, z refl, least l, one_positive))

  -- by where it lies
  placed_near : NearExact θ (placed θ)
  placed_near = go (lt θ (float_of 90)) refl (le θ (decimal 1484 1)) where
    go : (b : Bool) → lt θ (float_of 90) ≡ b → (c : Bool) → NearExact θ (cond b in_front (cond c (beside (beside_at θ)) (behind (behind_at θ))))
    go true l c = tt
    go false l true = beside_near θ (units_of θ) (angle l)
    go false l false = behind_near θ (units_of θ) (angle l)

pub distance_law : DistanceLaw
distance_law θ correction f g =
    let answered = given_value (first_of (angle_rules θ)) g in
    let passed = pass (angle_rules θ) (lit< tt, tt) answered.0 in
    subst (NearExact θ) answered.1 (placed_near θ f (not-false (within (float_of 0) (float_of 180) θ) passed.0))
