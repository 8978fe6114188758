-- How the parts by which values are off add up in a product, over plain numbers.
use mathlib.Core.Path.{subst}
use Prim.Native.Nat.{ℕ, ◌+◌, ◌*◌, ◌≤◌, ◌<◌}
use native.Mathlib.Nat.{mul-one, mul-le-mul_left, mul-le-mul_right, le_of_mul-le-mul_right}
use native.Mathlib.Omega.{arith}
use Rattle.float_units.proofs.Rounding.{U, Parts}

-- both sides times a number, from the right and from the left; and the fraction widened by one, and narrowed
pub times : {k n c g : ℕ} (x : ℕ) → Parts k n c g → Parts k (n * x) c (g * x)
times x p = record { above = omega (arith, mul-le-mul_right x p.above); below = omega (arith, mul-le-mul_right x p.below) }

pub of : {k n c g : ℕ} (x : ℕ) → Parts k n c g → Parts k (x * n) c (x * g)
of x p = record { above = omega (arith, mul-le-mul_left x p.above); below = omega (arith, mul-le-mul_left x p.below) }

pub widened : {k n c g : ℕ} (x : ℕ) → Parts k n c g → Parts k (n * x) (c * x) g
widened x p = record { above = omega (arith, mul-le-mul_right x p.above); below = omega (arith, mul-le-mul_right x p.below) }

pub narrowed : {k n c g : ℕ} (x : ℕ) → 0 < x → Parts k (n * x) (c * x) g → Parts k n c g
narrowed x X p = record {
  above = le_of_mul-le-mul_right {k = x} (omega (arith, p.above)) X;
  below = le_of_mul-le-mul_right {k = x} (omega (arith, p.below)) X;
}

-- of a whole number, without its bottom of 1
pub whole_above : {k n g : ℕ} → Parts k n 1 g → U * g ≤ U * n + k * n
whole_above {k} {n} {g} p = subst (λ (x : ℕ). U * x ≤ U * n + k * n) (mul-one g) p.above

pub whole_below : {k n g : ℕ} → Parts k n 1 g → U * n ≤ U * g + k * n
whole_below {k} {n} {g} p = subst (λ (x : ℕ). U * n ≤ U * x + k * n) (mul-one g) p.below

-- ---- few parts are little

cut : (x y z : ℕ) → U * x ≤ U * y + U * z → x ≤ y + z
cut x y z h = omega arith

-- e times a value off by j parts is one exact value above e times the exact one at the most
pub grown : {j n c g : ℕ} (e : ℕ) → e * j ≤ U → Parts j n c g → e * (g * c) ≤ e * n + n
grown {j} {n} {c} {g} e small p =
    let times_e : U * (e * (g * c)) ≤ U * (e * n) + e * (j * n) = omega (arith, mul-le-mul_left e p.above) in
    let rest : e * (j * n) ≤ U * n = omega (arith, mul-le-mul_right n small) in
    cut (e * (g * c)) (e * n) n (omega arith)

-- and it is at least half of the exact one
halved : (n x z : ℕ) → 2 * z ≤ U * n → U * n ≤ U * x + z → n ≤ 2 * x
halved n x z h l = omega arith

pub half : {k n c g : ℕ} → 2 * k ≤ U → Parts k n c g → n ≤ 2 * (g * c)
half {k} {n} {c} {g} small p = halved n (g * c) (k * n) (omega (arith, mul-le-mul_right n small)) p.below

-- ---- one after the other

-- g is n / c, and r is g / d
pub then : {j k n c g d r : ℕ} → k * j ≤ U → Parts j n c g → Parts k g d r → Parts (j + k + 1) n (c * d) r
then {j} {k} {n} {c} {g} {d} {r} small p q =
    let x = grown k small p in
    record {
      above = omega (arith, x, p.above, mul-le-mul_right c q.above);
      below = omega (arith, x, p.below, mul-le-mul_right c q.below);
    }
