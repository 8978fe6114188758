-- Each f64 operation on values given in units, of any sign: what fraction is rounded, with which sign, and how near the result is to it.
use mathlib.Core.Path.{◌≡◌, refl, sym, ap, ap₂, ◌∙◌, subst}
use mathlib.Core.Bool.{Bool, true, false, not, cond, true≢false, false≢true}
use Prim.Native.Nat.{ℕ, ◌+◌, ◌-◌, ◌*◌, ◌^◌, ◌≤◌, ◌<◌}
use native.Mathlib.Nat.{le_trans, le_of_eq, add-zero, zero-add, zero-mul, mul_comm, mul_assoc, mul_left_comm, mul_right_comm, mul-mul-mul_comm, mul-sub, add-mul, mul-pos, mul-le-mul_right, le_of_mul-le-mul_right, eq_of_mul-eq-mul_right}
use native.Mathlib.Omega.{arith}
use lib.IntN.{ℤ}
use lib.Dec.{ltb, eqb}
use lib.Ieee.{Float, nan, inf, fin, binary64, prec, low, up, down, unlike, round, neg, sum, add, sub, mul, div}
use lib.Ieee.Exact.{HasValue, units_val}
use lib.Ieee.Fits.{up_pos, down_pos, round_is}
use lib.Ieee.Order.{drop, kept}
use lib.Ieee.Positive.{first_pos}
use lib.Ieee.Scale.{grid, overflow, round_same, round_under}
use borrow.Author.Tests.{ltb-true, ltb-false, ne_eqb}
use Rattle.quantity.specs.Numbers.{distance}
use Rattle.floats.proofs.Bounded.{AtMost, is_finite, round_at_most}
use Rattle.float_units.specs.Units.{units_in_one as W}
use Rattle.float_units.proofs.Rounding.{rounded, Whole, rounded_whole}
use Rattle.float_units.proofs.Units.{one_is, one_positive, Sized}

-- ---- rounding

-- a fraction of at most B is rounded to a finite value of either sign
pub round_value : (s : Bool) (a c B : ℕ) → 0 < c → a ≤ B * c → B ≤ 2 ^ prec binary64 → HasValue (round binary64 s a c) s (rounded (a * W) c) W
round_value s a c B C h small =
    let fine : grid binary64 a c < overflow binary64 = round_under binary64 a c (is_finite B (round binary64 false a c) (round_at_most a c B C h small false)) in
    let n = a * 2 ^ low binary64 in
    subst (λ (w : ℕ). HasValue (round binary64 s a c) s (rounded (a * w) c) w) (sym one_is)
    (subst (λ (z : Float). HasValue z s (grid binary64 a c) (2 ^ low binary64)) (sym (round_is binary64 s a c)) (units_val binary64 s (kept 53 n c) (drop 53 n c) fine))

-- what is at most B in size has at most that many units
at_most_units : (z : Float) (s : Bool) (g B : ℕ) → AtMost B z → HasValue z s g W → g ≤ B * W
at_most_units nan s g B a v = absurd v
at_most_units (inf t) s g B a v = absurd v
at_most_units (fin t m e) s g B a v =
    le_of_mul-le-mul_right (le_trans (le_of_eq (sym v.1)) (le_trans (mul-le-mul_right W a) (le_of_eq (mul_right_comm B (down e) W)))) (down_pos e)

-- and the other way round
pub units_at_most : (z : Float) (s : Bool) (g B : ℕ) → HasValue z s g W → g ≤ B * W → AtMost B z
units_at_most nan s g B v h = absurd v
units_at_most (inf t) s g B v h = absurd v
units_at_most (fin t m e) s g B v h =
    le_of_mul-le-mul_right (le_trans (le_of_eq v.1) (le_trans (mul-le-mul_right (down e) h) (le_of_eq (mul_right_comm B W (down e))))) one_positive

pub round_most : (s : Bool) (a c B : ℕ) → 0 < c → a ≤ B * c → B ≤ 2 ^ prec binary64 → rounded (a * W) c ≤ B * W
round_most s a c B C h small = at_most_units (round binary64 s a c) s (rounded (a * W) c) B (round_at_most a c B C h small s) (round_value s a c B C h small)

-- ---- sums and differences

-- the units above zero and below it, of a value of the sign s and the size X
abbrev pub plus_of : Bool → ℕ → ℕ
plus_of s X = cond s 0 X

abbrev pub minus_of : Bool → ℕ → ℕ
minus_of s X = cond s X 0

-- z is X − Y, rounded, over c: its sign is that of the difference, either one where that is zero
pub record Minus (z : Float) (X Y c : ℕ) : Type 0 where
  pub sign : Bool
  pub same : z ≡ round binary64 sign (distance X Y) c
  pub below : sign ≡ true → X ≤ Y
  pub above : sign ≡ false → Y ≤ X

-- by the sign that the rounded difference d has
minus_of_lem : (sign : Bool) (X Y c d : ℕ) → d ≡ distance X Y → (sign ≡ true → X ≤ Y) → (sign ≡ false → Y ≤ X) → Minus (round binary64 sign d c) X Y c
minus_of_lem sign X Y c d e b a = record { sign = sign; same = ap (λ (z : ℕ). round binary64 sign z c) e; below = b; above = a }

-- a sum is what stands above zero less what stands below
sum_is : (s t : Bool) (a b c : ℕ) → Minus (sum binary64 s a t b c) (plus_of s a + plus_of t b) (minus_of s a + minus_of t b) c
unfolding sum
sum_is false false a b c = minus_of_lem false (a + b) 0 c (a + b) (omega arith) (λ h. absurd (false≢true h)) (λ h. omega arith)
sum_is true true a b c = minus_of_lem true 0 (a + b) c (a + b) (omega arith) (λ h. omega arith) (λ h. absurd (true≢false h))
sum_is false true a b c = go (ltb a b) refl where
  go : (q : Bool) → ltb a b ≡ q → Minus (cond q (round binary64 true (b - a) c) (round binary64 false (a - b) c)) (a + 0) (0 + b) c
  go true e = minus_of_lem true (a + 0) (0 + b) c (b - a) (omega (arith, ltb-true a b e)) (λ h. omega (arith, ltb-true a b e)) (λ h. absurd (true≢false h))
  go false e = minus_of_lem false (a + 0) (0 + b) c (a - b) (omega (arith, ltb-false a b e)) (λ h. absurd (false≢true h)) (λ h. omega (arith, ltb-false a b e))
sum_is true false a b c = go (ltb a b) refl (ltb b a) refl where
  go : (q : Bool) → ltb a b ≡ q → (r : Bool) → ltb b a ≡ r → Minus (cond q (round binary64 false (b - a) c) (round binary64 r (a - b) c)) (0 + b) (a + 0) c
  go true e r f = minus_of_lem false (0 + b) (a + 0) c (b - a) (omega (arith, ltb-true a b e)) (λ h. absurd (false≢true h)) (λ h. omega (arith, ltb-true a b e))
  go false e true f = minus_of_lem true (0 + b) (a + 0) c (a - b) (omega (arith, ltb-true b a f)) (λ h. omega (arith, ltb-true b a f)) (λ h. absurd (true≢false h))
  go false e false f = minus_of_lem false (0 + b) (a + 0) c (a - b) (omega (arith, ltb-false a b e)) (λ h. absurd (false≢true h)) (λ h. omega (arith, ltb-false b a f))

-- from one scale to another
module _ (a b c X Y : ℕ) (C : 0 < c) (h : a * W ≡ X * c) (k : b * W ≡ Y * c) where
  scaled_sum : (a + b) * W ≡ (X + Y) * c
  scaled_sum = add-mul a b W ∙ ap₂ (λ (p q : ℕ). p + q) h k ∙ sym (add-mul X Y c)

  scaled_order : a ≤ b → X ≤ Y
  scaled_order l = le_of_mul-le-mul_right (le_trans (le_of_eq (sym h)) (le_trans (mul-le-mul_right W l) (le_of_eq k))) C

sub_mul : (a b w : ℕ) → (a - b) * w ≡ a * w - b * w
sub_mul a b w = mul_comm (a - b) w ∙ mul-sub w a b ∙ ap₂ (λ (p q : ℕ). p - q) (mul_comm w a) (mul_comm w b)

scaled_less : (a b c X Y : ℕ) → a * W ≡ X * c → b * W ≡ Y * c → (a - b) * W ≡ (X - Y) * c
scaled_less a b c X Y h k = sub_mul a b W ∙ ap₂ (λ (p q : ℕ). p - q) h k ∙ sym (sub_mul X Y c)

scaled_distance : (a b c X Y : ℕ) → a * W ≡ X * c → b * W ≡ Y * c → distance a b * W ≡ distance X Y * c
scaled_distance a b c X Y h k =
    add-mul (a - b) (b - a) W ∙ ap₂ (λ (p q : ℕ). p + q) (scaled_less a b c X Y h k) (scaled_less b a c Y X k h) ∙ sym (add-mul (X - Y) (Y - X) c)

scaled_minus : (z : Float) (a b c X Y : ℕ) → 0 < c → a * W ≡ X * c → b * W ≡ Y * c → Minus z a b c → Minus z X Y W
scaled_minus z a b c X Y C h k m = record {
  sign = m.sign;
  same = m.same ∙ round_same binary64 m.sign (distance a b) c (distance X Y) W C one_positive (scaled_distance a b c X Y h k);
  below = λ e. scaled_order a b c X Y C h k (m.below e);
  above = λ e. scaled_order b a c Y X C k h (m.above e);
}

-- the same of a value with its sign
scaled_plus : (s : Bool) (a c X : ℕ) → a * W ≡ X * c → plus_of s a * W ≡ plus_of s X * c
scaled_plus false a c X h = h
scaled_plus true a c X h = zero-mul W ∙ sym (zero-mul c)

scaled_minus_of : (s : Bool) (a c X : ℕ) → a * W ≡ X * c → minus_of s a * W ≡ minus_of s X * c
scaled_minus_of false a c X h = zero-mul W ∙ sym (zero-mul c)
scaled_minus_of true a c X h = h

-- the two terms of a sum over their common scale
module _ (s t : Bool) (m n X Y : ℕ) (e d : ℤ) (v : m * up e * W ≡ X * down e) (w : n * up d * W ≡ Y * down d) where
  left : m * up e * down d * W ≡ X * (down e * down d)
  left = mul_right_comm (m * up e) (down d) W ∙ ap (λ (z : ℕ). z * down d) v ∙ mul_assoc X (down e) (down d)

  right : n * up d * down e * W ≡ Y * (down e * down d)
  right = mul_right_comm (n * up d) (down e) W ∙ ap (λ (z : ℕ). z * down e) w ∙ mul_assoc Y (down d) (down e) ∙ ap (λ (z : ℕ). Y * z) (mul_comm (down d) (down e))

  scale : 0 < down e * down d
  scale = mul-pos (down_pos e) (down_pos d)

  add_fin : Minus (add binary64 (fin s m e) (fin t n d)) (plus_of s X + plus_of t Y) (minus_of s X + minus_of t Y) W
  unfolding add
  add_fin =
      let a = m * up e * down d in
      let b = n * up d * down e in
      let c = down e * down d in
      scaled_minus (sum binary64 s a t b c) (plus_of s a + plus_of t b) (minus_of s a + minus_of t b) c (plus_of s X + plus_of t Y) (minus_of s X + minus_of t Y) scale
      (scaled_sum (plus_of s a) (plus_of t b) c (plus_of s X) (plus_of t Y) scale (scaled_plus s a c X left) (scaled_plus t b c Y right))
      (scaled_sum (minus_of s a) (minus_of t b) c (minus_of s X) (minus_of t Y) scale (scaled_minus_of s a c X left) (scaled_minus_of t b c Y right))
      (sum_is s t a b c)

pub add_is : (x y : Float) (s t : Bool) (X Y : ℕ) → HasValue x s X W → HasValue y t Y W → Minus (add binary64 x y) (plus_of s X + plus_of t Y) (minus_of s X + minus_of t Y) W
add_is nan y s t X Y v w = absurd v
add_is (inf r) y s t X Y v w = absurd v
add_is (fin r m e) nan s t X Y v w = absurd w
add_is (fin r m e) (inf q) s t X Y v w = absurd w
add_is (fin r m e) (fin q n d) s t X Y v w =
    subst (λ (u : Bool). Minus (add binary64 (fin u m e) (fin q n d)) (plus_of s X + plus_of t Y) (minus_of s X + minus_of t Y) W) (sym v.0)
    (subst (λ (u : Bool). Minus (add binary64 (fin s m e) (fin u n d)) (plus_of s X + plus_of t Y) (minus_of s X + minus_of t Y) W) (sym w.0)
    (add_fin s t m n X Y e d v.1 w.1))

neg_value : (y : Float) (t : Bool) (Y : ℕ) → HasValue y t Y W → HasValue (neg y) (not t) Y W
unfolding neg
neg_value nan t Y v = absurd v
neg_value (inf s) t Y v = absurd v
neg_value (fin s m e) t Y v = (ap not v.0, v.1)

pub sub_is : (x y : Float) (s t : Bool) (X Y : ℕ) → HasValue x s X W → HasValue y t Y W → Minus (sub binary64 x y) (plus_of s X + minus_of t Y) (minus_of s X + plus_of t Y) W
unfolding sub
sub_is x y s t X Y v w = go t w where
  go : (t : Bool) → HasValue y t Y W → Minus (add binary64 x (neg y)) (plus_of s X + minus_of t Y) (minus_of s X + plus_of t Y) W
  go false w = add_is x (neg y) s true X Y v (neg_value y false Y w)
  go true w = add_is x (neg y) s false X Y v (neg_value y true Y w)

-- values that are not below zero

sized_plus : (s : Bool) (X : ℕ) → (s ≡ true → X ≡ 0) → plus_of s X ≡ X
sized_plus false X z = refl
sized_plus true X z = sym (z refl)

sized_minus : (s : Bool) (X : ℕ) → (s ≡ true → X ≡ 0) → minus_of s X ≡ 0
sized_minus false X z = refl
sized_minus true X z = z refl

pub sub_sized : (x y : Float) (X Y : ℕ) → Sized x X → Sized y Y → Minus (sub binary64 x y) X Y W
sub_sized x y X Y s t =
    subst (λ (n : ℕ). Minus (sub binary64 x y) n Y W) (ap₂ (λ (m n : ℕ). m + n) (sized_plus s.sign X s.none) (sized_minus t.sign Y t.none) ∙ add-zero X)
    (subst (λ (n : ℕ). Minus (sub binary64 x y) (plus_of s.sign X + minus_of t.sign Y) n W)
    (ap₂ (λ (m n : ℕ). m + n) (sized_minus s.sign X s.none) (sized_plus t.sign Y t.none) ∙ zero-add Y)
    (sub_is x y s.sign t.sign X Y s.value t.value))

-- ---- a rounded difference in units

-- X − Y, at most B in size, rounded
pub record Difference (z : Float) (X Y B : ℕ) : Type 0 where
  pub sign : Bool
  pub size : ℕ
  pub value : HasValue z sign size W
  pub most : size ≤ B * W
  pub apart : distance X Y ≤ B * W
  pub whole : Whole (distance X Y) size
  pub below : sign ≡ true → X ≤ Y
  pub above : sign ≡ false → Y ≤ X

pub difference : (z : Float) (X Y B : ℕ) → Minus z X Y W → X ≤ B * W → Y ≤ B * W → B ≤ 2 ^ prec binary64 → Difference z X Y B
difference z X Y B m h k small = record {
  sign = m.sign;
  size = rounded (distance X Y * W) W;
  value = subst (λ (x : Float). HasValue x m.sign (rounded (distance X Y * W) W) W) (sym m.same) (round_value m.sign (distance X Y) W B one_positive (bound X Y (B * W) h k) small);
  most = round_most m.sign (distance X Y) W B one_positive (bound X Y (B * W) h k) small;
  apart = bound X Y (B * W) h k;
  whole = rounded_whole (distance X Y) W one_positive;
  below = m.below;
  above = m.above;
}
  where
    bound : (X Y T : ℕ) → X ≤ T → Y ≤ T → (X - Y) + (Y - X) ≤ T
    bound X Y T h k = omega arith

-- ---- products and quotients

pub mul_is : (x y : Float) (s t : Bool) (X Y : ℕ) → HasValue x s X W → HasValue y t Y W → mul binary64 x y ≡ round binary64 (unlike s t) (X * Y) (W * W)
unfolding mul
mul_is nan y s t X Y v w = absurd v
mul_is (inf r) y s t X Y v w = absurd v
mul_is (fin r m e) nan s t X Y v w = absurd w
mul_is (fin r m e) (inf q) s t X Y v w = absurd w
mul_is (fin r m e) (fin q n d) s t X Y v w =
    ap₂ (λ (a b : Bool). round binary64 (unlike a b) (m * up e * (n * up d)) (down e * down d)) v.0 w.0
    ∙ round_same binary64 (unlike s t) (m * up e * (n * up d)) (down e * down d) (X * Y) (W * W) (mul-pos (down_pos e) (down_pos d)) (mul-pos one_positive one_positive)
    (mul-mul-mul_comm (m * up e) (n * up d) W W ∙ ap₂ (λ (a b : ℕ). a * b) v.1 w.1 ∙ mul-mul-mul_comm X (down e) Y (down d))

turned : (a dd Y de b X : ℕ) → a * W ≡ X * de → b * W ≡ Y * dd → a * dd * Y ≡ X * (b * de)
turned a dd Y de b X v w =
    eq_of_mul-eq-mul_right W one_positive (a * dd * Y) (X * (b * de))
    (first ∙ ap₂ (λ (p q : ℕ). p * q) v (sym w) ∙ last)
  where
    first : a * dd * Y * W ≡ a * W * (Y * dd)
    first = simp (mul_assoc, mul_comm, mul_left_comm)

    last : X * de * (b * W) ≡ X * (b * de) * W
    last = simp (mul_assoc, mul_comm, mul_left_comm)

pub div_is : (x y : Float) (s t : Bool) (X Y : ℕ) → HasValue x s X W → HasValue y t Y W → 0 < Y → div binary64 x y ≡ round binary64 (unlike s t) X Y
unfolding div
div_is nan y s t X Y v w p = absurd v
div_is (inf r) y s t X Y v w p = absurd v
div_is (fin r m e) nan s t X Y v w p = absurd w
div_is (fin r m e) (inf q) s t X Y v w p = absurd w
div_is (fin r m e) (fin q n d) s t X Y v w p =
    let n_positive : 0 < n = first_pos n (up d) (first_pos (n * up d) W (subst (λ (z : ℕ). 0 < z) (sym w.1) (mul-pos p (down_pos d)))) in
    ap (λ (b : Bool). cond b (cond (eqb m 0) nan (inf (unlike r q))) (round binary64 (unlike r q) (m * up e * down d) (n * up d * down e))) (ne_eqb n 0 (λ z. omega arith))
    ∙ ap₂ (λ (a b : Bool). round binary64 (unlike a b) (m * up e * down d) (n * up d * down e)) v.0 w.0
    ∙ round_same binary64 (unlike s t) (m * up e * down d) (n * up d * down e) X Y (mul-pos (mul-pos n_positive (up_pos d)) (down_pos e)) p
    (turned (m * up e) (down d) Y (down e) (n * up d) X v.1 w.1)
