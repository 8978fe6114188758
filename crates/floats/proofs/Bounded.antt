-- Values of at most a whole number in size: sums and products of such values are finite, so no NaN comes of them.
use mathlib.Core.Path.{sym, ap, subst, ◌∙◌}
use Prim.Native.Nat.{ℕ, zero, suc, ◌+◌, ◌-◌, ◌*◌, ◌^◌, ◌≤◌, ◌<◌}
use native.Mathlib.Nat.{mul-pos, mul-one, mul_assoc, mul_comm, add-mul, le_trans, le_of_eq, mul-le-mul, mul-le-mul_right, mul-mul-mul_comm}
use native.Mathlib.Omega.{arith}
use mathlib.Core.Bool.{Bool, true, false, not, ◌&&◌, beq, cond, true≢false}
use lib.Dec.{T, ltb, lit<}
use lib.Ieee.{Float, nan, inf, fin, binary64, prec, low, emax, up, down, unlike, odd, units, round, neg, sum, add, sub, mul, div, le, is_nan}
use lib.Ieee.Back.{round_whole}
use lib.Ieee.Bits.{is_true}
use lib.Ieee.Exact.{HasValue}
use lib.Ieee.Fits.{down_pos, round_is}
use lib.Ieee.Order.{round_mono}
use lib.Ieee.Positive.{num, den, den_pos, through, value→cross}
use lib.Ieee.Scale.{finite}
use borrow.Author.Tests.{leb-true, ne_eqb}
use Rattle.floats.proofs.Nonnegative.{Nonnegative, value_nonnegative, le_is}
use Rattle.floats.proofs.Zeros.{Nonzero}

-- finite, and at most B in size
abbrev pub AtMost : ℕ → Float → Type 0
AtMost B nan = ⊥
AtMost B (inf s) = ⊥
AtMost B (fin s m e) = m * up e ≤ B * down e

pub no_nan : (B : ℕ) (x : Float) → AtMost B x → T (not (is_nan x))
unfolding is_nan
no_nan B nan h = absurd h
no_nan B (inf s) h = absurd h
no_nan B (fin s m e) h = tt

pub is_finite : (B : ℕ) (x : Float) → AtMost B x → T (finite x)
is_finite B nan h = absurd h
is_finite B (inf s) h = absurd h
is_finite B (fin s m e) h = tt

pub of_nonnegative : (B : ℕ) (x : Float) → Nonnegative x → num x ≤ B * den x → AtMost B x
of_nonnegative B nan p h = absurd p
of_nonnegative B (inf s) p h = absurd p
of_nonnegative B (fin s m e) p h = h

-- ---- rounding

-- what rounds without a sign to no more than y, which is finite, is nonnegative, and a sign changes nothing of its size
odd_nonnegative : (d q k l : ℕ) → Nonnegative (odd d false q k l)
unfolding odd
odd_nonnegative d zero k l = λ h. absurd (true≢false (sym h))
odd_nonnegative d (suc q) k l = λ h. absurd (true≢false (sym h))

odd_sign : (B d : ℕ) (s : Bool) (q k l : ℕ) → AtMost B (odd d false q k l) → AtMost B (odd d s q k l)
unfolding odd
odd_sign B d s zero k l h = h
odd_sign B d s (suc q) k l h = h

signed : (B : ℕ) (s : Bool) (q k : ℕ) → AtMost B (units binary64 false q k) → AtMost B (units binary64 s q k)
unfolding units
signed B s q k = go (ltb (q * 2 ^ k) (2 ^ (low binary64 + suc (emax binary64)))) where
  go : (b : Bool) → AtMost B (cond b (odd (suc (prec binary64)) false q k (low binary64)) (inf false)) → AtMost B (cond b (odd (suc (prec binary64)) s q k (low binary64)) (inf s))
  go true h = odd_sign B (suc (prec binary64)) s q k (low binary64) h
  go false h = absurd h

units_nonnegative : (q k : ℕ) (y : Float) → Nonnegative y → T (le (units binary64 false q k) y) → Nonnegative (units binary64 false q k)
unfolding units le
units_nonnegative q k nan p = absurd p
units_nonnegative q k (inf t) p = absurd p
units_nonnegative q k (fin t n d) p = go (ltb (q * 2 ^ k) (2 ^ (low binary64 + suc (emax binary64)))) where
  go : (b : Bool) → T (le (cond b (odd (suc (prec binary64)) false q k (low binary64)) (inf false)) (fin t n d)) → Nonnegative (cond b (odd (suc (prec binary64)) false q k (low binary64)) (inf false))
  go true h = odd_nonnegative (suc (prec binary64)) q k (low binary64)
  go false h = absurd h

round_nonnegative : (a c : ℕ) (y : Float) → Nonnegative y → T (le (round binary64 false a c) y) → Nonnegative (round binary64 false a c)
round_nonnegative a c y p h = subst Nonnegative (sym (round_is binary64 false a c)) (units_nonnegative _ _ y p (subst (λ (x : Float). T (le x y)) (round_is binary64 false a c) h))

module _ (a c B : ℕ) (C : 0 < c) (h : a ≤ B * c) (small : B ≤ 2 ^ prec binary64) where
  top : HasValue (round binary64 false B 1) false B 1
  top = round_whole binary64 false B small

  below_top : T (le (round binary64 false a c) (round binary64 false B 1))
  below_top = round_mono binary64 a c B 1 C (lit< tt) (le_trans (le_of_eq (mul-one a)) h)

  nonnegative : Nonnegative (round binary64 false a c)
  nonnegative = round_nonnegative a c (round binary64 false B 1) (value_nonnegative (round binary64 false B 1) B 1 top) below_top

  unsigned : AtMost B (round binary64 false a c)
  unsigned =
      let x = round binary64 false a c in
      let y = round binary64 false B 1 in
      of_nonnegative B x nonnegative
      (le_trans (le_of_eq (sym (mul-one (num x))))
      (through (num x) (num y) B (den x) (den y) 1 (den_pos y)
      (leb-true _ _ (sym (le_is x y nonnegative (value_nonnegative y B 1 top)) ∙ is_true _ below_top))
      (le_of_eq (value→cross y B 1 top))))

  pub round_at_most : (s : Bool) → AtMost B (round binary64 s a c)
  round_at_most s =
      subst (AtMost B) (sym (round_is binary64 s a c)) (signed B s _ _ (subst (AtMost B) (round_is binary64 false a c) unsigned))

-- ---- the operations

pub times : (A B : ℕ) (x y : Float) → AtMost A x → AtMost B y → A * B ≤ 2 ^ prec binary64 → AtMost (A * B) (mul binary64 x y)
unfolding mul
times A B nan y h k small = absurd h
times A B (inf s) y h k small = absurd h
times A B (fin s m e) nan h k small = absurd k
times A B (fin s m e) (inf t) h k small = absurd k
times A B (fin s m e) (fin t n d) h k small =
    round_at_most (m * up e * (n * up d)) (down e * down d) (A * B) (mul-pos (down_pos e) (down_pos d))
    (le_trans (mul-le-mul h k) (le_of_eq (mul-mul-mul_comm A (down e) B (down d)))) small (unlike s t)

sum_at_most : (A B : ℕ) (s t : Bool) (a b c : ℕ) → 0 < c → a ≤ A * c → b ≤ B * c → A + B ≤ 2 ^ prec binary64 → AtMost (A + B) (sum binary64 s a t b c)
unfolding sum
sum_at_most A B s t a b c C h k small = go (beq s t) (ltb a b) where
  both : a + b ≤ (A + B) * c
  both = omega (arith, h, k, add-mul A B c)

  left : a - b ≤ (A + B) * c
  left = omega (arith, h, k, add-mul A B c)

  right : b - a ≤ (A + B) * c
  right = omega (arith, h, k, add-mul A B c)

  go : (p q : Bool) → AtMost (A + B) (cond p (round binary64 s (a + b) c) (cond q (round binary64 t (b - a) c) (round binary64 (s && ltb b a) (a - b) c)))
  go true q = round_at_most (a + b) c (A + B) C both small s
  go false true = round_at_most (b - a) c (A + B) C right small t
  go false false = round_at_most (a - b) c (A + B) C left small (s && ltb b a)

pub plus : (A B : ℕ) (x y : Float) → AtMost A x → AtMost B y → A + B ≤ 2 ^ prec binary64 → AtMost (A + B) (add binary64 x y)
unfolding add
plus A B nan y h k small = absurd h
plus A B (inf s) y h k small = absurd h
plus A B (fin s m e) nan h k small = absurd k
plus A B (fin s m e) (inf t) h k small = absurd k
plus A B (fin s m e) (fin t n d) h k small =
    sum_at_most A B s t (m * up e * down d) (n * up d * down e) (down e * down d) (mul-pos (down_pos e) (down_pos d))
    (le_trans (mul-le-mul_right (down d) h) (le_of_eq (mul_assoc A (down e) (down d))))
    (le_trans (mul-le-mul_right (down e) k) (le_of_eq (mul_assoc B (down d) (down e) ∙ ap (λ (z : ℕ). B * z) (mul_comm (down d) (down e)))))
    small

negated : (B : ℕ) (x : Float) → AtMost B x → AtMost B (neg x)
unfolding neg
negated B nan h = absurd h
negated B (inf s) h = absurd h
negated B (fin s m e) h = h

pub minus : (A B : ℕ) (x y : Float) → AtMost A x → AtMost B y → A + B ≤ 2 ^ prec binary64 → AtMost (A + B) (sub binary64 x y)
unfolding sub
minus A B x y h k small = plus A B x (neg y) h (negated B y k) small

-- ---- what is no NaN

units_number : (s : Bool) (q k : ℕ) → T (not (is_nan (units binary64 s q k)))
unfolding units odd is_nan
units_number s zero k = go (ltb (0 * 2 ^ k) (2 ^ (low binary64 + suc (emax binary64)))) where
  go : (b : Bool) → T (not (is_nan (cond b (odd (suc (prec binary64)) s 0 k (low binary64)) (inf s))))
  go true = tt
  go false = tt
units_number s (suc q) k = go (ltb (suc q * 2 ^ k) (2 ^ (low binary64 + suc (emax binary64)))) where
  go : (b : Bool) → T (not (is_nan (cond b (odd (suc (prec binary64)) s (suc q) k (low binary64)) (inf s))))
  go true = tt
  go false = tt

round_number : (s : Bool) (a c : ℕ) → T (not (is_nan (round binary64 s a c)))
round_number s a c = subst (λ (x : Float). T (not (is_nan x))) (sym (round_is binary64 s a c)) (units_number s _ _)

pub over : (A B : ℕ) (x y : Float) → AtMost A x → AtMost B y → Nonzero y → T (not (is_nan (div binary64 x y)))
unfolding div
over A B nan y h k a = absurd h
over A B (inf s) y h k a = absurd h
over A B (fin s m e) nan h k a = absurd k
over A B (fin s m e) (inf t) h k a = absurd k
over A B (fin s m e) (fin t n d) h k a = rw (ne_eqb n 0 (λ z. omega arith)) (round_number (unlike s t) (m * up e * down d) (n * up d * down e))

pub plus_number : (A : ℕ) (x y : Float) → AtMost A x → T (not (is_nan y)) → T (not (is_nan (add binary64 x y)))
unfolding add sum is_nan
plus_number A nan y h k = absurd h
plus_number A (inf s) y h k = absurd h
plus_number A (fin s m e) nan h k = absurd k
plus_number A (fin s m e) (inf t) h k = tt
plus_number A (fin s m e) (fin t n d) h k = go (beq s t) (ltb a b) where
  a : ℕ
  a = m * up e * down d

  b : ℕ
  b = n * up d * down e

  c : ℕ
  c = down e * down d

  go : (p q : Bool) → T (not (is_nan (cond p (round binary64 s (a + b) c) (cond q (round binary64 t (b - a) c) (round binary64 (s && ltb b a) (a - b) c)))))
  go true q = round_number s (a + b) c
  go false true = round_number t (b - a) c
  go false false = round_number (s && ltb b a) (a - b) c
