-- The size of an f64 in units: each f64 is a whole number of them, and values not below zero are in the order of their units.
use mathlib.Core.Path.{◌≡◌, refl, sym, ap, ◌∙◌}
use mathlib.Core.Bool.{Bool, true}
use Prim.Native.Nat.{ℕ, suc, ◌-◌, ◌*◌, ◌/◌, ◌^◌, ◌≤◌, ◌<◌}
use native.Mathlib.Nat.{le_trans, le_of_eq, lt_of_not-le, not-le_of_lt, zero-mul, zero-div, mul-one, mul_assoc, mul_right_comm, mul-le-mul_right, le_of_mul-le-mul_right, mul-div_cancel}
use lib.IntN.{ℤ, pos, negsuc}
use lib.Dec.{T, lit≤, lit<}
use lib.Pow.{pow-add}
use lib.Ieee.{Float, nan, inf, fin, binary64, low, up, down, fits}
use lib.Ieee.Digits.{back}
use lib.Ieee.Exact.{HasValue}
use lib.Ieee.Fits.{down_pos}
use lib.Ieee.Order.{transfer}
use lib.Ieee.Positive.{num, den, den_pos}
use Rattle.floats.proofs.Nonnegative.{Nonnegative}
use Rattle.floats.proofs.Exact.{fits_den, pow_back}
use Rattle.float_units.specs.Units.{units_in_one as W, units_of}

-- ---- how many make 1

pub one_is : W ≡ 2 ^ low binary64
unfolding W
one_is = refl

pub one_positive : 0 < W
unfolding W
one_positive = lit< tt

pub one_large : 2 ^ 74 ≤ W
unfolding W
one_large = lit≤ tt

-- ---- each f64 is a whole number of units

into : (e : ℤ) (j : ℕ) → down e ≤ 2 ^ j → (t : ℕ) × (2 ^ j ≡ t * down e)
into (pos k) j h = (2 ^ j, sym (mul-one (2 ^ j)))
into (negsuc k) j h = (2 ^ (j - suc k), ap (λ (n : ℕ). 2 ^ n) (sym (back j (suc k) (pow_back (suc k) j h))) ∙ pow-add 2 (j - suc k) (suc k))

divides : (v w t d : ℕ) → 0 < d → w ≡ t * d → v * w ≡ v * w / d * d
divides v w t d D h =
    let e : v * w ≡ v * t * d = ap (λ (z : ℕ). v * z) h ∙ sym (mul_assoc v t d) in
    e ∙ ap (λ (z : ℕ). z * d) (sym (mul-div_cancel (v * t) D) ∙ ap (λ (z : ℕ). z / d) (sym e))

pub cross : (x : Float) → T (fits binary64 x) → num x * W ≡ units_of x * den x
cross nan f = zero-mul W
cross (inf s) f = zero-mul W
cross (fin s m e) f =
    let i = into e (low binary64) (fits_den (fin s m e) f) in
    divides (m * up e) W i.0 (down e) (down_pos e) (one_is ∙ i.1)

-- a value that is not below zero, with its sign, which −0 has too
pub record Sized (x : Float) (X : ℕ) : Type 0 where
  pub sign : Bool
  pub value : HasValue x sign X W
  pub none : sign ≡ true → X ≡ 0

no_units : (m u d : ℕ) → m ≡ 0 → m * u * W / d ≡ 0
no_units m u d h = rw (h, zero-mul u, zero-mul W, zero-div d)

pub sized : (x : Float) → Nonnegative x → T (fits binary64 x) → Sized x (units_of x)
sized nan p f = absurd p
sized (inf s) p f = absurd p
sized (fin s m e) p f = record { sign = s; value = (refl, cross (fin s m e) f); none = λ h. no_units m (up e) (down e) (p h) }

-- ---- the order

module _ (x y : Float) (f : T (fits binary64 x)) (g : T (fits binary64 y)) where
  pub units_le : num x * den y ≤ num y * den x → units_of x ≤ units_of y
  units_le h =
      le_of_mul-le-mul_right
      (transfer (units_of x) (units_of y) W W (num x) (num y) (den x) (den y) (den_pos x) (den_pos y) (sym (cross x f)) (sym (cross y g)) h)
      one_positive

  pub units_lt : num x * den y < num y * den x → units_of x < units_of y
  units_lt h =
      lt_of_not-le (λ (l : units_of y ≤ units_of x). not-le_of_lt h
      (transfer (num y) (num x) (den y) (den x) (units_of y) (units_of x) W W one_positive one_positive (cross y g) (cross x f) (mul-le-mul_right W l)))

pub units_most : (x : Float) (B : ℕ) → T (fits binary64 x) → num x ≤ B * den x → units_of x ≤ B * W
units_most x B f h =
    le_of_mul-le-mul_right
    (le_trans (le_of_eq (sym (cross x f))) (le_trans (mul-le-mul_right W h) (le_of_eq (mul_right_comm B (den x) W))))
    (den_pos x)
