-- The terms of B.14 and B.15: a constant times a power of the angle, and by how many parts it is off.
use mathlib.Core.Path.{◌≡◌, subst}
use mathlib.Core.Bool.{false}
use Prim.Native.Nat.{ℕ, ◌+◌, ◌*◌, ◌^◌, ◌≤◌, ◌<◌}
use native.Mathlib.Nat.{le_trans, one-le-pow, mul_right_comm, mul-pos, mul-le-mul, mul-le-mul_left, mul-le-mul_right, le_of_mul-le-mul_right}
use native.Mathlib.Omega.{arith}
use lib.Dec.{lit≤, lit<}
use lib.Ieee.{Float, binary64, prec, mul}
use lib.Ieee.Exact.{HasValue}
use Rattle.floats.specs.Arithmetic.{decimal}
use Rattle.float_units.specs.Units.{units_in_one as W}
use Rattle.float_units.proofs.Rounding.{U, Parts, rounded, rounded_parts}
use Rattle.float_units.proofs.Parts.{times, of, widened, narrowed, grown, half, then}
use Rattle.float_units.proofs.Units.{one_positive, one_large}
use Rattle.float_units.proofs.Operations.{round_value, round_most}
use Rattle.float_units.proofs.Near.{product}
use Rattle.float_units.proofs.Sums.{Part, term_off}
use Rattle.start_of_roll_accuracy.specs.Distance.{bottom}

-- ---- a constant

-- x is the f64 nearest to d / u, at most s in size
pub record Constant (x : Float) (d u s : ℕ) : Type 0 where
  pub size : ℕ
  pub value : HasValue x false size W
  pub most : size ≤ s * W
  pub parts : Parts 1 (d * W) u size
  pub least : W ≤ 100000 * size
  pub top : d ≤ s * u
  pub positive : 0 < u

least_of : (d u g : ℕ) → 0 < d → 2 * u ≤ 100000 * d → d * W ≤ 2 * (g * u) → W ≤ 100000 * g
least_of d u g D h k = le_of_mul-le-mul_right {k = d} (omega (arith, k, mul-le-mul_left g h)) D

-- a decimal that is at most s and at least 1 / 50000, as is computed of each
abbrev Moderate : (digits places s : ℕ) → Type 0
Moderate digits places s = (0 < digits) × (2 * 10 ^ places ≤ 100000 * digits) × (digits ≤ s * 10 ^ places) × (s ≤ 2 ^ prec binary64)

-- it is large enough to lose one part at the most
wide_enough : (d u : ℕ) → 2 * u ≤ 100000 * d → U * u ≤ d * 2 ^ 74
wide_enough d u h = omega arith

module _ (digits places s : ℕ) (m : Moderate digits places s) where
  abbrev u : ℕ
  u = 10 ^ places

  places_positive : 0 < u
  places_positive = one-le-pow places 10 (lit< tt)

  off_by_one : Parts 1 (digits * W) u (rounded (digits * W) u)
  off_by_one = rounded_parts (digits * W) u places_positive (le_trans (wide_enough digits u m.1) (mul-le-mul_left digits one_large))

  pub constant : Constant (decimal digits places) digits u s
  unfolding decimal
  constant = record {
    size = rounded (digits * W) u;
    value = round_value false digits u s places_positive m.2 m.3;
    most = round_most false digits u s places_positive m.2 m.3;
    parts = off_by_one;
    least = least_of digits u (rounded (digits * W) u) m.0 m.1 (half (lit≤ tt) off_by_one);
    top = m.2;
    positive = places_positive;
  }

-- ---- a power of the angle

-- θ is t units, from 2 degrees to 180
pub record Angle (θ : Float) (t : ℕ) : Type 0 where
  pub value : HasValue θ false t W
  pub least : 2 * W ≤ t
  pub most : t ≤ 180 * W

-- y is N / c units, off by k parts; at most b in size, and 2 at the least
pub record Power (y : Float) (k N c b : ℕ) : Type 0 where
  pub size : ℕ
  pub value : HasValue y false size W
  pub parts : Parts k N c size
  pub least : 2 * W ≤ size
  pub most : size ≤ b * W
  pub top : N ≤ b * (c * W)
  pub positive : 0 < c

-- the angle itself, and a power once more times the angle
pub first : {θ : Float} {t : ℕ} → Angle θ t → Power θ 0 t 1 180
first {θ} {t} a = record { size = t; value = a.value; parts = record { above = omega arith; below = omega arith }; least = a.least; most = a.most; top = omega (arith, a.most); positive = lit< tt }

-- a product is large enough to lose one part at the most
squares : (x y : ℕ) → 2 * W ≤ x → 2 * W ≤ y → 4 * (W * W) ≤ x * y
squares x y h k = omega (arith, mul-le-mul h k)

unit_small : U * 100000 ≤ W
unit_small = le_trans (lit≤ tt) one_large

large_enough : (x : ℕ) → W * W ≤ 100000 * x → U * W ≤ x
large_enough x h = le_of_mul-le-mul_right {k = 100000} (omega (arith, h, mul-le-mul_right W unit_small)) (lit< tt)

halved : (x g : ℕ) → 4 * (W * W) ≤ x → x ≤ 2 * (g * W) → 2 * W ≤ g
halved x g h k = le_of_mul-le-mul_right {k = W} (omega arith) one_positive

quarter : (x : ℕ) → 4 * (W * W) ≤ x → W * W ≤ 100000 * x
quarter x h = omega arith

pub next : {y θ : Float} {k N c b t : ℕ} → k ≤ 100 → b * 180 ≤ 2 ^ prec binary64 → Power y k N c b → Angle θ t → Power (mul binary64 y θ) (k + 1 + 1) (N * t) (c * W) (b * 180)
next {y} {θ} {k} {N} {c} {b} {t} few small p a =
    let large = squares p.size t p.least a.least in
    let q = product y θ p.size t (b * 180) p.value a.value (omega (arith, mul-le-mul p.most a.most)) small (large_enough (p.size * t) (quarter (p.size * t) large)) in
    record {
      size = q.size;
      value = q.value;
      parts = then {k = 1} (omega arith) (times t p.parts) q.parts;
      least = halved (p.size * t) q.size large (half (lit≤ tt) q.parts);
      most = q.most;
      top = omega (arith, mul-le-mul p.top a.most);
      positive = mul-pos p.positive one_positive;
    }

-- ---- the constant term

pub constant_term : {x : Float} {d u s : ℕ} (v : ℕ) → u * v ≡ bottom → Constant x d u s → Part bottom x (d * W * v) 0 (1 * s) s
constant_term {x} {d} {u} {s} v e a = record {
  sign = false;
  size = a.size;
  value = a.value;
  most = a.most;
  off =
      term_off bottom a.size (d * W * v) 1 s (subst (λ (B : ℕ). Parts 1 (d * W * v) B a.size) e (widened v a.parts))
      (subst (λ (B : ℕ). d * W * v ≤ s * (B * W)) e (omega (arith, mul-le-mul_right (W * v) a.top)));
}

-- ---- a constant times a power

-- few parts, and a term d / u × b that is at most s, a hundred thousandth more included
abbrev Small : (k d b u s : ℕ) → Type 0
Small k d b u s = (k ≤ 100) × (d * b * 100001 ≤ s * u * 100000) × (s ≤ 2 ^ prec binary64)

-- the exact term is d / u × N / c; it is at most s, and so is what is computed
module _ {x y : Float} {d u r k N c b : ℕ} (s : ℕ) (m : Small k d b u s) (a : Constant x d u r) (p : Power y k N c b) where
  before : Parts (1 + k + 1) (d * W * N) (u * c) (a.size * p.size)
  before = then {j = 1} {k = k} (omega (arith, m.0)) (times N a.parts) (of a.size p.parts)

  product_most : a.size * p.size ≤ s * (W * W)
  product_most =
      le_of_mul-le-mul_right {k = u * c}
      (omega (arith, grown 100000 (omega (arith, m.0)) before, mul-le-mul_left (d * W) p.top, mul-le-mul_right (c * (W * W)) m.1))
      (mul-pos a.positive p.positive)

  product_least : W * W ≤ 100000 * (a.size * p.size)
  product_least = omega (arith, mul-le-mul a.least p.least)

  -- the parts of the constant, of the power and of their product
  abbrev lost : ℕ
  lost = 1 + k + 1 + 1 + 1

  pub term : (v : ℕ) → u * c * v ≡ bottom → Part bottom (mul binary64 x y) (d * N * v) 0 (lost * s) s
  term v e =
      let q = product x y a.size p.size s a.value p.value product_most m.2 (large_enough (a.size * p.size) product_least) in
      let after : Parts lost (d * W * N) (u * c * W) q.size = then {k = 1} (omega (arith, m.0)) before q.parts in
      let over_one = narrowed W one_positive (subst (λ (n : ℕ). Parts lost n (u * c * W) q.size) (mul_right_comm d W N) after) in
      record {
        sign = false;
        size = q.size;
        value = q.value;
        most = q.most;
        off =
            term_off bottom q.size (d * N * v) lost s (subst (λ (B : ℕ). Parts lost (d * N * v) B q.size) e (widened v over_one))
            (subst (λ (B : ℕ). d * N * v ≤ s * (B * W)) e (omega (arith, mul-le-mul_right v (mul-le-mul_left d p.top), mul-le-mul_right (c * W * v) m.1)));
      }
