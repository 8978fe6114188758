-- How far a fraction is from the f64 that it is rounded to, both counted in units of the smallest one. Nothing here is about floats but the rounding itself.
use mathlib.Core.Path.{◌≡◌, sym, ap, ◌∙◌}
use mathlib.Core.Logic.{◌⊎◌, inl, inr}
use Prim.Native.Nat.{ℕ, suc, ◌+◌, ◌-◌, ◌*◌, ◌/◌, ◌%◌, ◌^◌, ◌≤◌, ◌<◌, compare, Ordering}
use native.Mathlib.Nat.{le_trans, le_of_eq, eq-zero-or-pos, mul-one, one-mul, mul_comm, mul_assoc, mul_right_comm, suc-mul, add-mul, mul-le-mul_right, le_of_mul-le-mul_right, mul-pos, mod-lt, div-add-mod', le-div_iff_mul-le}
use native.Mathlib.Omega.{arith}
use mathlib.Core.Bool.{not}
use lib.Dec.{T, is_le, compare_is_eq, leb→le, nleb→lt, eqb→eq}
use lib.Pow.{pow-add, pow_pos}
use lib.Ieee.{size, nearest}
use lib.Ieee.Digits.{size_reaches}
use lib.Ieee.Nearest.{closest}
use lib.Ieee.Order.{drop, kept}

-- an f64 keeps 53 binary digits; U is 2^53
abbrev pub U : ℕ
U = 9007199254740992

-- ---- the nearest whole number

-- q × u is within half of u of n
pub record Half (n u q : ℕ) : Type 0 where
  pub above : 2 * (q * u) ≤ 2 * n + u
  pub below : 2 * n ≤ 2 * (q * u) + u

module _ (n u : ℕ) (P : 0 < u) where
  parts : n / u * u + n % u ≡ n
  parts = div-add-mod' n u

  rest : n % u < u
  rest = mod-lt n P

  half_stay : n % u * 2 ≤ u → Half n u (n / u)
  half_stay h = record { above = omega (arith, parts, rest); below = omega (arith, parts, rest) }

  half_next : u ≤ n % u * 2 → Half n u (suc (n / u))
  half_next h = record { above = omega (arith, parts, rest, suc-mul (n / u) u); below = omega (arith, parts, rest, suc-mul (n / u) u) }

  tie : (z : ℕ) → z ≤ 1 → n % u * 2 ≡ u → Half n u (n / u + z)
  tie z l h =
      let m : z * u ≤ 1 * u = mul-le-mul_right u l in
      let s : (n / u + z) * u ≡ n / u * u + z * u = add-mul (n / u) z u in
      record { above = omega (arith, parts, one-mul u); below = omega (arith, parts, one-mul u) }

  bit : (q : ℕ) → q % 2 ≤ 1
  bit q = omega arith

  closest_half : Half n u (closest n u)
  closest_half = go (compare (n % u * 2) u) (leb→le (n % u * 2) u) (nleb→lt (n % u * 2) u) (eqb→eq (n % u * 2) u) where
    go : (o : Ordering) → (T (is_le o) → n % u * 2 ≤ u) → (T (not (is_le o)) → u < n % u * 2) → (T (compare_is_eq o) → n % u * 2 ≡ u) → Half n u (nearest (n / u) o)
    go Ordering.lt h k e = half_stay (h tt)
    go Ordering.eq h k e = tie (n / u % 2) (bit (n / u)) (e tt)
    go Ordering.gt h k e = half_next (le_trans (omega arith) (k tt))

-- ---- the unit that is rounded to

-- n / c rounded to 53 digits
abbrev pub rounded : (n c : ℕ) → ℕ
rounded n c = kept 53 n c * 2 ^ drop 53 n c

all_digits : (z : ℕ) → 0 < z - 53 → 52 + (z - 53) < z
all_digits z h = omega arith

double : (x n : ℕ) → x ≤ n → 2 * x ≤ 2 * n
double x n h = omega arith

module _ (n c : ℕ) (C : 0 < c) where
  abbrev step : ℕ
  step = c * 2 ^ drop 53 n c

  -- it is c itself where no digit is dropped, and at most 2 n / U where some are
  step_size : (step ≡ c) ⊎ (U * step ≤ 2 * n)
  step_size = elim (eq-zero-or-pos (drop 53 n c)) [
    | inl e ↦ inl (ap (λ (k : ℕ). c * 2 ^ k) e ∙ mul-one c)
    | inr h ↦ inr (le_trans (le_of_eq same) (double _ n ((le-div_iff_mul-le C).0 (size_reaches (n / c) (52 + drop 53 n c) (all_digits (size (n / c)) h)))))
  ]
    where
      same : U * step ≡ 2 * (2 ^ (52 + drop 53 n c) * c)
      same =
          sym (mul_assoc U c (2 ^ drop 53 n c)) ∙ mul_right_comm U c (2 ^ drop 53 n c)
          ∙ ap (λ (z : ℕ). z * c) (mul_assoc 2 (2 ^ 52) (2 ^ drop 53 n c) ∙ ap (λ (z : ℕ). 2 * z) (sym (pow-add 2 52 (drop 53 n c))))
          ∙ mul_assoc 2 (2 ^ (52 + drop 53 n c)) c

  -- what is kept times the step is the rounded number times c
  scaled : kept 53 n c * step ≡ rounded n c * c
  scaled = ap (λ (z : ℕ). kept 53 n c * z) (mul_comm c (2 ^ drop 53 n c)) ∙ sym (mul_assoc (kept 53 n c) (2 ^ drop 53 n c) c)

  half_step : Half n step (kept 53 n c)
  half_step = closest_half n step (mul-pos C (pow_pos (drop 53 n c)))

  -- so the rounded number is within half a step of n / c
  above_step : 2 * (rounded n c * c) ≤ 2 * n + step
  above_step = le_trans (le_of_eq (ap (λ (z : ℕ). 2 * z) (sym scaled))) half_step.above

  below_step : 2 * n ≤ 2 * (rounded n c * c) + step
  below_step = le_trans half_step.below (le_of_eq (ap (λ (z : ℕ). 2 * z + step) scaled))

-- ---- how near the rounded number is

-- g is n / c up to half a unit and one part in U
pub record Close (n c g : ℕ) : Type 0 where
  pub above : 2 * (U * (g * c)) ≤ 2 * (U * n) + 2 * n + U * c
  pub below : 2 * (U * n) ≤ 2 * (U * (g * c)) + 2 * n + U * c

close_of : (n c g s : ℕ) → (s ≡ c) ⊎ (U * s ≤ 2 * n) → 2 * (g * c) ≤ 2 * n + s → 2 * n ≤ 2 * (g * c) + s → Close n c g
close_of n c g s (inl e) h k = record { above = omega arith; below = omega arith }
close_of n c g s (inr e) h k = record { above = omega arith; below = omega arith }

pub rounded_close : (n c : ℕ) → 0 < c → Close n c (rounded n c)
rounded_close n c C = close_of n c (rounded n c) (step n c C) (step_size n c C) (above_step n c C) (below_step n c C)

-- g is n / c up to k parts in U
pub record Parts (k n c g : ℕ) : Type 0 where
  pub above : U * (g * c) ≤ U * n + k * n
  pub below : U * n ≤ U * (g * c) + k * n

parts_of : (n c g s : ℕ) → U * c ≤ n → (s ≡ c) ⊎ (U * s ≤ 2 * n) → 2 * (g * c) ≤ 2 * n + s → 2 * n ≤ 2 * (g * c) + s → Parts 1 n c g
parts_of n c g s l (inl e) h k = record { above = omega arith; below = omega arith }
parts_of n c g s l (inr e) h k = record { above = omega arith; below = omega arith }

-- a fraction of U units or more is off by one part at the most
pub rounded_parts : (n c : ℕ) → 0 < c → U * c ≤ n → Parts 1 n c (rounded n c)
rounded_parts n c C l = parts_of n c (rounded n c) (step n c C) l (step_size n c C) (above_step n c C) (below_step n c C)

-- g is the whole number m up to one part in U
abbrev pub Whole : (m g : ℕ) → Type 0
Whole m g = Parts 1 m 1 g

whole_of : (m c g s : ℕ) → 0 < c → (s ≡ c) ⊎ (U * s ≤ 2 * (m * c)) → 2 * (g * c) ≤ 2 * (m * c) + s → 2 * (m * c) ≤ 2 * (g * c) + s → Whole m g
whole_of m c g s C (inl e) h k =
    let a : 2 * g ≤ 2 * m + 1 = le_of_mul-le-mul_right {k = c} (omega arith) C in
    let b : 2 * m ≤ 2 * g + 1 = le_of_mul-le-mul_right {k = c} (omega arith) C in
    record { above = omega arith; below = omega arith }
whole_of m c g s C (inr e) h k =
    record { above = le_of_mul-le-mul_right {k = c} (omega arith) C; below = le_of_mul-le-mul_right {k = c} (omega arith) C }

-- such is every whole number of units, however small
pub rounded_whole : (m c : ℕ) → 0 < c → Whole m (rounded (m * c) c)
rounded_whole m c C =
    let n = m * c in
    whole_of m c (rounded n c) (step n c C) C (step_size n c C) (above_step n c C) (below_step n c C)
