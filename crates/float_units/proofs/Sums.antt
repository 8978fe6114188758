-- Sums of values of either sign, each off by some parts: errors add up, and each sum adds one part of its own size. What is off by few parts is near.
use mathlib.Core.Path.{◌≡◌, refl, ap, ◌∙◌}
use mathlib.Core.Bool.{Bool, true, false}
use Prim.Native.Nat.{ℕ, ◌+◌, ◌*◌, ◌^◌, ◌≤◌}
use native.Mathlib.Nat.{zero-mul, mul-le-mul_left, mul-le-mul_right}
use native.Mathlib.Omega.{arith}
use lib.Ieee.{Float, binary64, prec, add, sub}
use lib.Ieee.Exact.{HasValue}
use Rattle.quantity.specs.Numbers.{distance}
use Rattle.float_units.specs.Units.{units_in_one as W, Near}
use Rattle.float_units.proofs.Rounding.{U, Parts}
use Rattle.float_units.proofs.Units.{Sized}
use Rattle.float_units.proofs.Operations.{plus_of, minus_of, Minus, add_is, sub_is, difference}
use Rattle.float_units.proofs.Near.{near_of, near_enough, signed}

-- ---- over plain numbers

-- p − n units are (P − N) / B of them up to e parts in U of 1
pub record Off (B p n P N e : ℕ) : Type 0 where
  pub above : U * (p * B + N) ≤ U * (n * B + P) + e * (B * W)
  pub below : U * (n * B + P) ≤ U * (p * B + N) + e * (B * W)

-- the sum of two, of which D is the size, itself off by one part
sum_off : (B zp zn p n q m P N Q R e f s D : ℕ) → U * (zp + (n + m)) ≤ U * (zn + (p + q)) + D → U * (zn + (p + q)) ≤ U * (zp + (n + m)) + D → D ≤ s * W
    → Off B p n P N e → Off B q m Q R f → Off B zp zn (P + Q) (N + R) (e + f + s)
sum_off B zp zn p n q m P N Q R e f s D h k l o o' = record {
  above = omega (arith, mul-le-mul_right B h, mul-le-mul_right B l, o.above, o'.above);
  below = omega (arith, mul-le-mul_right B k, mul-le-mul_right B l, o.below, o'.below);
}

turned : (B q m Q R f : ℕ) → Off B q m Q R f → Off B m q R Q f
turned B q m Q R f o = record { above = o.below; below = o.above }

-- the same exact value as another difference
restated : (B p n P N Q R e : ℕ) → P + R ≡ Q + N → Off B p n P N e → Off B p n Q R e
restated B p n P N Q R e h o = record { above = omega (arith, o.above); below = omega (arith, o.below) }

-- a value of the sign s and the size g, whose exact size is X / B
pub signed_off : (s : Bool) (B g X e : ℕ) → U * (g * B) ≤ U * X + e * (B * W) → U * X ≤ U * (g * B) + e * (B * W) → Off B (plus_of s g) (minus_of s g) (plus_of s X) (minus_of s X) e
signed_off false B g X e h k = record { above = omega (arith, h); below = omega (arith, k) }
signed_off true B g X e h k = record { above = omega (arith, k); below = omega (arith, h) }

-- the same of one above zero that is off by k of its own parts, and at most s in size
pub term_off : (B g P k s : ℕ) → Parts k P B g → P ≤ s * (B * W) → Off B g 0 P 0 (k * s)
term_off B g P k s p h = signed_off false B g P (k * s) (omega (arith, p.above, mul-le-mul_left k h)) (omega (arith, p.below, mul-le-mul_left k h))

-- ---- of f64

-- z is (P − N) / B units up to e parts in U of 1, and at most s in size
pub record Part (B : ℕ) (z : Float) (P N e s : ℕ) : Type 0 where
  pub sign : Bool
  pub size : ℕ
  pub value : HasValue z sign size W
  pub most : size ≤ s * W
  pub off : Off B (plus_of sign size) (minus_of sign size) P N e

-- a value that is not below zero, by itself
pub exact_part : (B : ℕ) {x : Float} {X s : ℕ} → Sized x X → X ≤ s * W → Part B x (X * B) 0 0 s
exact_part B {x} {X} {s} v h = record { sign = v.sign; size = X; value = v.value; most = h; off = go v.sign v.none } where
  go : (b : Bool) → (b ≡ true → X ≡ 0) → Off B (plus_of b X) (minus_of b X) (X * B) 0 0
  go false z = signed_off false B X (X * B) 0 (omega arith) (omega arith)
  go true z = let none : X * B ≡ 0 = ap (λ (n : ℕ). n * B) (z refl) ∙ zero-mul B in record { above = omega arith; below = omega arith }

plus_most : (s : Bool) (X T : ℕ) → X ≤ T → plus_of s X ≤ T
plus_most false X T h = h
plus_most true X T h = omega arith

minus_most : (s : Bool) (X T : ℕ) → X ≤ T → minus_of s X ≤ T
minus_most false X T h = omega arith
minus_most true X T h = h

both_most : (x y s r : ℕ) → x ≤ s * W → y ≤ r * W → x + y ≤ (s + r) * W
both_most x y s r h k = omega arith

rounded_sum : (B : ℕ) (z : Float) (p n P N e q m Q R f s r : ℕ) → Minus z (p + q) (n + m) W → Off B p n P N e → Off B q m Q R f
    → p ≤ s * W → n ≤ s * W → q ≤ r * W → m ≤ r * W → s + r ≤ 2 ^ prec binary64 → Part B z (P + Q) (N + R) (e + f + (s + r)) (s + r)
rounded_sum B z p n P N e q m Q R f s r minus o o' hp hn hq hm small =
    let d = difference z (p + q) (n + m) (s + r) minus (both_most p q s r hp hq) (both_most n m s r hn hm) small in
    let g = signed d in
    record {
      sign = d.sign;
      size = d.size;
      value = d.value;
      most = d.most;
      off =
          sum_off B (plus_of d.sign d.size) (minus_of d.sign d.size) p n q m P N Q R e f (s + r) (distance (p + q) (n + m)) g.above g.below d.apart o o';
    }

module _ {B : ℕ} {x y : Float} {P N e s Q R f r : ℕ} (small : s + r ≤ 2 ^ prec binary64) (a : Part B x P N e s) (b : Part B y Q R f r) where
  pub plus : Part B (add binary64 x y) (P + Q) (N + R) (e + f + (s + r)) (s + r)
  plus =
      rounded_sum B (add binary64 x y) _ _ P N e _ _ Q R f s r (add_is x y a.sign b.sign a.size b.size a.value b.value) a.off b.off
      (plus_most a.sign _ _ a.most) (minus_most a.sign _ _ a.most) (plus_most b.sign _ _ b.most) (minus_most b.sign _ _ b.most) small

  pub minus : Part B (sub binary64 x y) (P + R) (N + Q) (e + f + (s + r)) (s + r)
  minus =
      rounded_sum B (sub binary64 x y) _ _ P N e _ _ R Q f s r (sub_is x y a.sign b.sign a.size b.size a.value b.value) a.off (turned B _ _ Q R f b.off)
      (plus_most a.sign _ _ a.most) (minus_most a.sign _ _ a.most) (minus_most b.sign _ _ b.most) (plus_most b.sign _ _ b.most) small

-- so a sum is near its exact value, stated as another difference or the same
pub near : (parts : ℕ) {B : ℕ} {z : Float} {P N e s : ℕ} (Q R : ℕ) → parts * e ≤ U → Part B z P N e s → P + R ≡ Q + N → Near parts z Q R B
near parts {B} {z} {P} {N} {e} {s} Q R few a h =
    let o = restated B _ _ P N Q R e h a.off in near_of parts z a.sign a.size Q R B a.value (near_enough parts e _ _ (B * W) few o.above o.below)
