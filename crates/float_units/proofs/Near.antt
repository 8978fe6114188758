-- What is near an exact value, by the units above zero and below it: sums of values of any sign, and products of values above zero.
use mathlib.Core.Path.{◌≡◌, refl, sym, ap, subst, ◌∙◌}
use mathlib.Core.Bool.{Bool, true, false}
use Prim.Native.Nat.{ℕ, ◌+◌, ◌-◌, ◌*◌, ◌/◌, ◌^◌, ◌≤◌, ◌<◌}
use native.Mathlib.Nat.{le_trans, le_of_eq, mul_assoc, mul-pos, mul-le-mul_left, mul-le-mul_right, le_of_mul-le-mul_right, mul-div_cancel}
use native.Mathlib.Omega.{arith}
use lib.Dec.{lit<}
use lib.Ieee.{Float, nan, inf, fin, binary64, prec, up, down, mul}
use lib.Ieee.Exact.{HasValue}
use lib.Ieee.Fits.{down_pos}
use Rattle.quantity.specs.Numbers.{distance}
use Rattle.float_units.specs.Units.{units_in_one as W, Near}
use Rattle.float_units.proofs.Rounding.{U, Whole, Parts, rounded, rounded_parts}
use Rattle.float_units.proofs.Parts.{narrowed}
use Rattle.float_units.proofs.Units.{one_positive}
use Rattle.float_units.proofs.Operations.{plus_of, minus_of, round_value, round_most, Difference, mul_is}

-- ---- a value by its sign and size

-- it is near where its units above and below zero are
pub near_of : (parts : ℕ) (z : Float) (s : Bool) (g plus minus bottom : ℕ) → HasValue z s g W
    → parts * distance (plus_of s g * bottom + minus) (minus_of s g * bottom + plus) ≤ bottom * W → Near parts z plus minus bottom
near_of parts nan s g plus minus bottom v h = absurd v
near_of parts (inf t) s g plus minus bottom v h = absurd v
near_of parts (fin t m e) s g plus minus bottom v h = go t (subst Apart (sym v.0) h) where
  Apart : Bool → Type 0
  Apart b = parts * distance (plus_of b g * bottom + minus) (minus_of b g * bottom + plus) ≤ bottom * W

  units : g ≡ m * up e * W / down e
  units = sym (ap (λ (z : ℕ). z / down e) v.1 ∙ mul-div_cancel g (down_pos e))

  go : (b : Bool) → Apart b → Near parts (fin b m e) plus minus bottom
  go false k = (tt, subst (λ (u : ℕ). parts * distance (u * bottom + minus) (0 * bottom + plus) ≤ bottom * W) units k)
  go true k = (tt, subst (λ (u : ℕ). parts * distance (0 * bottom + minus) (u * bottom + plus) ≤ bottom * W) units k)

-- e parts in U are one of so many parts of 1 at the most, where their product is at most U
apart : (x y E : ℕ) → U * x ≤ U * y + E → U * y ≤ U * x + E → U * ((x - y) + (y - x)) ≤ E
apart x y E h k = omega arith

pub near_enough : (parts e x y M : ℕ) → parts * e ≤ U → U * x ≤ U * y + e * M → U * y ≤ U * x + e * M → parts * distance x y ≤ M
near_enough parts e x y M small h k =
    le_of_mul-le-mul_right {k = U}
    (omega (arith, mul-le-mul_left parts (apart x y (e * M) h k), mul-le-mul_right M small))
    (lit< tt)

-- ---- a rounded difference

-- p − n is a − b up to one part in U
pub record Signed (p n a b : ℕ) : Type 0 where
  pub above : U * (p + b) ≤ U * (n + a) + distance a b
  pub below : U * (n + a) ≤ U * (p + b) + distance a b

pub signed : {z : Float} {a b B : ℕ} (d : Difference z a b B) → Signed (plus_of d.sign d.size) (minus_of d.sign d.size) a b
signed {z} {a} {b} d = go d.sign d.below d.above where
  w : Whole (distance a b) d.size
  w = d.whole

  go : (s : Bool) → (s ≡ true → a ≤ b) → (s ≡ false → b ≤ a) → Signed (plus_of s d.size) (minus_of s d.size) a b
  go false h k = record { above = omega (arith, w.above, k refl); below = omega (arith, w.below, k refl) }
  go true h k = record { above = omega (arith, w.below, h refl); below = omega (arith, w.above, h refl) }

-- ---- a product of values above zero

pub record Product (z : Float) (x B : ℕ) : Type 0 where
  pub size : ℕ
  pub value : HasValue z false size W
  pub most : size ≤ B * W
  pub parts : Parts 1 x W size

pub product : (x y : Float) (X Y B : ℕ) → HasValue x false X W → HasValue y false Y W → X * Y ≤ B * (W * W) → B ≤ 2 ^ prec binary64 → U * W ≤ X * Y → Product (mul binary64 x y) (X * Y) B
product x y X Y B v w h small l =
    let C : 0 < W * W = mul-pos one_positive one_positive in
    record {
      size = rounded (X * Y * W) (W * W);
      value = subst (λ (z : Float). HasValue z false (rounded (X * Y * W) (W * W)) W) (sym (mul_is x y false false X Y v w)) (round_value false (X * Y) (W * W) B C h small);
      most = round_most false (X * Y) (W * W) B C h small;
      parts = narrowed W one_positive (rounded_parts (X * Y * W) (W * W) C (le_trans (le_of_eq (sym (mul_assoc U W W))) (mul-le-mul_right W l)));
    }
