-- B.3 between two rows, in units: each of its six operations, what is known of its result, and how near the level is to the exact value.
use mathlib.Core.Path.{◌≡◌, refl, sym, ap, ap₂, ◌∙◌, subst}
use mathlib.Core.Bool.{Bool, true, false, true≢false, false≢true}
use Prim.Native.Nat.{ℕ, ◌+◌, ◌-◌, ◌*◌, ◌≤◌, ◌<◌}
use native.Mathlib.Nat.{le_trans, le_of_eq, not-le_of_lt, sub-eq-zero_of_le, one-mul, mul-add, mul-pos, mul-le-mul, mul-le-mul_right}
use native.Mathlib.Omega.{arith}
use lib.Dec.{T, lit≤}
use lib.Ieee.{Float, binary64, unlike, add, sub, mul, div}
use lib.Ieee.Exact.{HasValue}
use lib.Ieee.Scale.{finite}
use Rattle.quantity.specs.Numbers.{distance}
use Rattle.floats.proofs.Bounded.{is_finite, plus as plus_at_most}
use Rattle.float_units.specs.Units.{units_in_one as W, Near}
use Rattle.float_units.proofs.Rounding.{rounded, Close, rounded_close, Whole}
use Rattle.float_units.proofs.Parts.{times, of, then}
use Rattle.float_units.proofs.Units.{one_positive, one_large, Sized}
use Rattle.float_units.proofs.Operations.{plus_of, minus_of, round_value, units_at_most, sub_sized, Difference, difference, mul_is, div_is}
use Rattle.float_units.proofs.Sums.{Part, signed_off, exact_part, plus, near}
use Rattle.thrust_accuracy.specs.Distance.{weighted, ExactLaw, parts_in_one, least_apart}
use Rattle.thrust_accuracy.proofs.Chain.{Second, second, second_most, Third, third, product_most, positive, over_one, quotient_most, rounded_most, apart, top_up, top_down, top_still}

-- ---- what is known of a result

-- a product of sizes a and b
pub record Product (z : Float) (s : Bool) (x : ℕ) : Type 0 where
  pub size : ℕ
  pub value : HasValue z s size W
  pub close : Close x W size

multiplied : (x y : Float) (s t : Bool) (a b : ℕ) → HasValue x s a W → HasValue y t b W → a ≤ 140 * W → b ≤ 1000 * W → Product (mul binary64 x y) (unlike s t) (a * b)
multiplied x y s t a b v w h k = record {
  size = rounded (a * b * W) (W * W);
  value =
      subst (λ (z : Float). HasValue z (unlike s t) (rounded (a * b * W) (W * W)) W) (sym (mul_is x y s t a b v w))
      (round_value (unlike s t) (a * b) (W * W) 140000 (mul-pos one_positive one_positive) (omega (arith, mul-le-mul h k)) (lit≤ tt));
  close = over_one (a * b) W (rounded (a * b * W) (W * W)) one_positive (rounded_close (a * b * W) (W * W) (mul-pos one_positive one_positive));
}

-- a quotient of sizes p and d
pub record Quotient (z : Float) (s : Bool) (p d : ℕ) : Type 0 where
  pub size : ℕ
  pub value : HasValue z s size W
  pub close : Close (p * W) d size

divided : (x y : Float) (s t : Bool) (p d : ℕ) → HasValue x s p W → HasValue y t d W → 0 < d → p ≤ 284 * d → Quotient (div binary64 x y) (unlike s t) p d
divided x y s t p d v w e h = record {
  size = rounded (p * W) d;
  value =
      subst (λ (z : Float). HasValue z (unlike s t) (rounded (p * W) d) W) (sym (div_is x y s t p d v w e)) (round_value (unlike s t) p d 284 e h (lit≤ tt));
  close = rounded_close (p * W) d e;
}

-- ---- the exact value, by the sign of what is added

narrow : (X Y : ℕ) → Y ≤ X → distance X Y ≡ X - Y
narrow X Y h = omega arith

pub exact_law : ExactLaw
exact_law l1 l2 F f1 f2 from to =
    regroup (l1 * (f2 - F)) (l2 * (F - f1)) (l1 * (F - f1))
    ∙ ap (λ (z : ℕ). z + l2 * (F - f1)) (sym (mul-add l1 (f2 - F) (F - f1)) ∙ ap (λ (z : ℕ). l1 * z) (split F f1 f2 from to))
  where
    regroup : (x y z : ℕ) → x + y + z ≡ x + z + y
    regroup x y z = omega arith

    split : (F f1 f2 : ℕ) → f1 ≤ F → F ≤ f2 → (f2 - F) + (F - f1) ≡ f2 - f1
    split F f1 f2 h k = omega arith

module _ (L1 L2 N N1 N2 : ℕ) (from : N1 ≤ N) (to : N ≤ N2) where
  abbrev Up : Type 0
  Up = weighted L1 L2 N N1 N2 ≡ L1 * (N2 - N1) + distance L2 L1 * (N - N1)

  abbrev Down : Type 0
  Down = weighted L1 L2 N N1 N2 + distance L2 L1 * (N - N1) ≡ L1 * (N2 - N1)

  exact_up : L1 ≤ L2 → Up
  exact_up h = top_up (weighted L1 L2 N N1 N2) L1 L2 (distance L2 L1) (N2 - N1) (N - N1) (exact_law L1 L2 N N1 N2 from to) (omega arith)

  exact_down : L2 ≤ L1 → Down
  exact_down h = top_down (weighted L1 L2 N N1 N2) L1 L2 (distance L2 L1) (N2 - N1) (N - N1) (exact_law L1 L2 N N1 N2 from to) (omega arith)

  still : N ≤ N1 → Up × Down
  still h = top_still (weighted L1 L2 N N1 N2) L1 L2 (distance L2 L1) (N2 - N1) (N - N1) (exact_law L1 L2 N N1 N2 from to) (sub-eq-zero_of_le h)

-- ---- the six operations

-- the lower and the upper level, the thrust F, and the lower and the upper thrust, each with its units
pub record Setting (l1 l2 F f1 f2 : Float) (L1 L2 N N1 N2 : ℕ) : Type 0 where
  pub lower_level : Sized l1 L1
  pub upper_level : Sized l2 L2
  pub thrust : Sized F N
  pub lower_thrust : Sized f1 N1
  pub upper_thrust : Sized f2 N2
  pub lower_most : L1 ≤ 140 * W
  pub upper_most : L2 ≤ 140 * W
  pub from : N1 ≤ N
  pub to : N ≤ N2
  pub rise : N1 < N2
  pub highest : N2 ≤ 1000 * W

module _ {l1 l2 F f1 f2 : Float} {L1 L2 N N1 N2 : ℕ} (g : Setting l1 l2 F f1 f2 L1 L2 N N1 N2) where
  levels : Difference (sub binary64 l2 l1) L2 L1 140
  levels = difference (sub binary64 l2 l1) L2 L1 140 (sub_sized l2 l1 L2 L1 g.upper_level g.lower_level) g.upper_most g.lower_most (lit≤ tt)

  thrusts : Difference (sub binary64 F f1) N N1 1000
  thrusts = difference (sub binary64 F f1) N N1 1000 (sub_sized F f1 N N1 g.thrust g.lower_thrust) (omega arith) (omega arith) (lit≤ tt)

  width : Difference (sub binary64 f2 f1) N2 N1 1000
  width = difference (sub binary64 f2 f1) N2 N1 1000 (sub_sized f2 f1 N2 N1 g.upper_thrust g.lower_thrust) (omega arith) (omega arith) (lit≤ tt)

  -- the exact differences, and their sizes
  abbrev A : ℕ
  A = distance L2 L1

  abbrev B : ℕ
  B = N - N1

  abbrev D : ℕ
  D = N2 - N1

  A_most : A ≤ 140 * W
  A_most = omega arith

  B_most : B ≤ D
  B_most = omega arith

  D_positive : 0 < D
  D_positive = omega arith

  thrusts_whole : Whole B thrusts.size
  thrusts_whole = subst (λ (z : ℕ). Whole z thrusts.size) (narrow N N1 g.from) thrusts.whole

  width_whole : Whole D width.size
  width_whole = subst (λ (z : ℕ). Whole z width.size) (narrow N2 N1 (omega arith)) width.whole

  width_positive : 0 < width.size
  width_positive = positive D width.size D_positive width_whole

  -- the product
  multiple : Product (mul binary64 (sub binary64 l2 l1) (sub binary64 F f1)) (unlike levels.sign thrusts.sign) (levels.size * thrusts.size)
  multiple = multiplied (sub binary64 l2 l1) (sub binary64 F f1) levels.sign thrusts.sign levels.size thrusts.size levels.value thrusts.value levels.most thrusts.most

  X_most : A * B ≤ 140 * (D * W)
  X_most = product_most A B D W A_most B_most

  to_product : Second (A * B) (D * W) W (multiple.size * W)
  to_product = second (A * B) (D * W) W (levels.size * thrusts.size) multiple.size X_most (then (lit≤ tt) (times B levels.whole) (of levels.size thrusts_whole)) multiple.close

  multiple_most : multiple.size * W ≤ 142 * (D * W)
  multiple_most = second_most (A * B) (D * W) W (multiple.size * W) X_most (le_trans (le_of_eq (sym (one-mul W))) (mul-le-mul_right W D_positive)) to_product

  -- the quotient
  abbrev sign_added : Bool
  sign_added = unlike (unlike levels.sign thrusts.sign) width.sign

  added : Quotient (div binary64 (mul binary64 (sub binary64 l2 l1) (sub binary64 F f1)) (sub binary64 f2 f1)) sign_added multiple.size width.size
  added =
      divided (mul binary64 (sub binary64 l2 l1) (sub binary64 F f1)) (sub binary64 f2 f1) (unlike levels.sign thrusts.sign) width.sign multiple.size width.size
      multiple.value width.value width_positive (quotient_most multiple.size W D width.size one_positive multiple_most width_whole)

  added_most : added.size ≤ 285 * W
  added_most =
      rounded_most added.size multiple.size W width.size one_positive width_positive
      (quotient_most multiple.size W D width.size one_positive multiple_most width_whole) added.close

  -- the level
  abbrev quotient : Float
  quotient = div binary64 (mul binary64 (sub binary64 l2 l1) (sub binary64 F f1)) (sub binary64 f2 f1)

  pub level_finite : T (finite (add binary64 l1 quotient))
  level_finite =
      is_finite 425 (add binary64 l1 quotient)
      (plus_at_most 140 285 l1 quotient (units_at_most l1 _ L1 140 g.lower_level.value g.lower_most) (units_at_most quotient _ added.size 285 added.value added_most) (lit≤ tt))

  -- the exact value, by the sign of the quotient
  abbrev top : ℕ
  top = weighted L1 L2 N N1 N2

  width_sign : width.sign ≡ false
  width_sign = go width.sign refl where
    go : (b : Bool) → width.sign ≡ b → b ≡ false
    go true e = absurd (not-le_of_lt g.rise (width.below e))
    go false e = refl

  exact_plus : sign_added ≡ false → top ≡ L1 * D + A * B
  exact_plus e = go levels.sign refl thrusts.sign refl (sym (ap (λ (b : Bool). unlike (unlike levels.sign thrusts.sign) b) width_sign) ∙ e) where
    go : (a : Bool) → levels.sign ≡ a → (b : Bool) → thrusts.sign ≡ b → unlike (unlike levels.sign thrusts.sign) false ≡ false → top ≡ L1 * D + A * B
    go a p true q h = (still L1 L2 N N1 N2 g.from g.to (thrusts.below q)).0
    go false p false q h = exact_up L1 L2 N N1 N2 g.from g.to (levels.above p)
    go true p false q h = absurd (true≢false (sym (ap₂ (λ (x y : Bool). unlike (unlike x y) false) p q) ∙ h))

  exact_minus : sign_added ≡ true → top + A * B ≡ L1 * D
  exact_minus e = go levels.sign refl thrusts.sign refl (sym (ap (λ (b : Bool). unlike (unlike levels.sign thrusts.sign) b) width_sign) ∙ e) where
    go : (a : Bool) → levels.sign ≡ a → (b : Bool) → thrusts.sign ≡ b → unlike (unlike levels.sign thrusts.sign) false ≡ true → top + A * B ≡ L1 * D
    go a p true q h = (still L1 L2 N N1 N2 g.from g.to (thrusts.below q)).1
    go true p false q h = exact_down L1 L2 N N1 N2 g.from g.to (levels.below p)
    go false p false q h = absurd (false≢true (sym (ap₂ (λ (x y : Bool). unlike (unlike x y) false) p q) ∙ h))

  exact : L1 * D + plus_of sign_added (A * B) + 0 ≡ top + (0 + minus_of sign_added (A * B))
  exact = go sign_added exact_plus exact_minus where
    go : (s : Bool) → (s ≡ false → top ≡ L1 * D + A * B) → (s ≡ true → top + A * B ≡ L1 * D) → L1 * D + plus_of s (A * B) + 0 ≡ top + (0 + minus_of s (A * B))
    go false p m = omega (arith, p refl)
    go true p m = omega (arith, m refl)

  -- how near it is
  module _ (wide : least_apart ≤ D) where
    to_quotient : Third (A * B) (D * W) (added.size * D)
    to_quotient =
        third (A * B) (D * W) W (multiple.size * W) D width.size added.size X_most multiple_most (apart W D width.size wide one_large width_whole) to_product added.close width_whole

    lower : Part D l1 (L1 * D) 0 0 140
    lower = exact_part D g.lower_level g.lower_most

    raise : Part D quotient (plus_of sign_added (A * B)) (minus_of sign_added (A * B)) 847 285
    raise = record { sign = sign_added; size = added.size; value = added.value; most = added_most; off = signed_off sign_added D added.size (A * B) 847 to_quotient.above to_quotient.below }

    pub level_near : Near parts_in_one (add binary64 l1 quotient) top 0 D
    level_near = near parts_in_one top 0 (lit≤ tt) (plus (lit≤ tt) lower raise) exact
