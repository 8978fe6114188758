-- Where an f64 operation loses nothing that a comparison sees: the difference of two unequal values is no zero, and a value plus a zero equals the value.
use mathlib.Core.Path.{◌≡◌, refl, sym, ap, subst, ◌∙◌}
use mathlib.Core.Logic.{◌⊎◌, inl, inr}
use Prim.Native.Nat.{ℕ, zero, suc, ◌+◌, ◌-◌, ◌*◌, ◌%◌, ◌^◌, ◌≤◌, ◌<◌}
use native.Mathlib.Nat.{zero-mul, mul-pos, mul-one, one-mul, suc-mul, mul_assoc, mul_comm, le_trans, le_of_eq, lt_of_lt_of_le, lt_of_le_of_lt, lt_irrefl, le_of_lt, mul-le-mul_right, lt_of_mul-lt-mul_right}
use native.Mathlib.Omega.{arith}
use mathlib.Core.Bool.{Bool, true, false, not, ◌&&◌, beq, cond}
use lib.IntN.{ℤ, pos, negsuc}
use lib.Dec.{T, leb, ltb, eqb, leb→le, ltb→lt, eqb→eq, lit<, lit≤}
use lib.Pow.{pow-add, pow_pos, pow_mono, pow-lt, shl_lt}
use lib.Ieee.{Float, nan, inf, fin, binary64, prec, low, emax, up, down, round, neg, sum, add, sub, eq, le, fits}
use lib.Ieee.Digits.{back}
use lib.Ieee.Exact.{HasValue, round_exact}
use lib.Ieee.Fits.{up_pos, down_pos, and_l, and_r}
use lib.Ieee.Order.{round_mono}
use lib.Ieee.Positive.{num, den, above, above_of_le}
use borrow.Author.Tests.{le-ltb, leb-true, leb-false, eq-eqb}
use Rattle.quantity.proofs.Tests.{both}
use Rattle.floats.proofs.Nonnegative.{Nonnegative, no_product, zero_factor, eq_is}
use Rattle.floats.proofs.Zeros.{Zero, IsZero, Nonzero, round_zero}

-- ---- what an f64 holds

-- the four tests of a value that is not zero
abbrev is_odd : ℕ → Bool
is_odd m = eqb (suc m % 2) 1

abbrev is_short : ℕ → Bool
is_short m = ltb (suc m) (2 ^ prec binary64)

abbrev is_deep : ℤ → Bool
is_deep e = leb (down e) (2 ^ low binary64)

abbrev is_under : ℕ → ℤ → Bool
is_under m e = ltb (suc m * up e) (2 ^ suc (emax binary64) * down e)

module _ (s : Bool) (m : ℕ) (e : ℤ) (f : T (fits binary64 (fin s (suc m) e))) where
  three : T (is_odd m && is_short m && is_deep e)
  unfolding fits
  three = and_l (is_odd m && is_short m && is_deep e) (is_under m e) f

  low_down : down e ≤ 2 ^ low binary64
  low_down = leb→le (down e) (2 ^ low binary64) (and_r (is_odd m && is_short m) (is_deep e) three)

  few_digits : suc m < 2 ^ prec binary64
  few_digits = ltb→lt (suc m) (2 ^ prec binary64) (and_r (is_odd m) (is_short m) (and_l (is_odd m && is_short m) (is_deep e) three))

  under_top : suc m * up e < 2 ^ suc (emax binary64) * down e
  unfolding fits
  under_top = ltb→lt (suc m * up e) (2 ^ suc (emax binary64) * down e) (and_r (is_odd m && is_short m && is_deep e) (is_under m e) f)

pub fits_den : (x : Float) → T (fits binary64 x) → den x ≤ 2 ^ low binary64
unfolding fits
fits_den nan f = lit≤ tt
fits_den (inf s) f = lit≤ tt
fits_den (fin s zero e) f =
    le_trans (le_of_eq (sym (one-mul (down e)))) (le_trans (mul-le-mul_right (down e) (up_pos e)) (le_trans (le_of_eq (eqb→eq (up e * down e) 1 f)) (lit≤ tt)))
fits_den (fin s (suc m) e) f = low_down s m e f

-- ---- the difference of two unequal values

-- u goes into w
record Into (u w : ℕ) : Type 0 where
  times : ℕ
  exact : w ≡ times * u

pow_into : (i j : ℕ) → i ≤ j → Into (2 ^ i) (2 ^ j)
pow_into i j h = record { times = 2 ^ (j - i); exact = ap (λ (n : ℕ). 2 ^ n) (sym (back j i h)) ∙ pow-add 2 (j - i) i }

-- of two scales one goes into the other
scales : (e d : ℤ) → Into (down d) (down e) ⊎ Into (down e) (down d)
scales (pos i) (pos j) = inl (record { times = 1; exact = refl })
scales (pos i) (negsuc j) = inr (record { times = 2 ^ suc j; exact = sym (mul-one (2 ^ suc j)) })
scales (negsuc i) (pos j) = inl (record { times = 2 ^ suc i; exact = sym (mul-one (2 ^ suc i)) })
scales (negsuc i) (negsuc j) = go (leb (suc j) (suc i)) refl where
  go : (b : Bool) → leb (suc j) (suc i) ≡ b → Into (2 ^ suc j) (2 ^ suc i) ⊎ Into (2 ^ suc i) (2 ^ suc j)
  go true h = inl (pow_into (suc j) (suc i) (leb-true (suc j) (suc i) h))
  go false h = inr (pow_into (suc i) (suc j) (le_of_lt (leb-false (suc j) (suc i) h)))

step : (p n u : ℕ) → n * u < p * u → u ≤ p * u - n * u
step p n u h =
    let one : suc n * u ≤ p * u = mul-le-mul_right u (lt_of_mul-lt-mul_right u h) in
    let split : suc n * u ≡ n * u + u = suc-mul n u in
    omega arith

-- two multiples of the coarser scale are apart by one of it, so by one unit of the finest at least
wide : (u w L g : ℕ) → w ≤ L → u ≤ g → w * u ≤ g * L
wide u w L g h k = le_trans (mul-le-mul_right u h) (le_trans (le_of_eq (mul_comm L u)) (mul-le-mul_right L k))

apart_by : (p n : ℕ) (e d : ℤ) (L : ℕ) → down e ≤ L → down d ≤ L → n * down e < p * down d → down e * down d ≤ (p * down d - n * down e) * L
apart_by p n e d L E D h =
    elim (scales e d) [
      | inl i ↦ wide (down d) (down e) L (p * down d - n * down e) E (finer i)
      | inr i ↦ le_trans (le_of_eq (mul_comm (down e) (down d))) (wide (down e) (down d) L (p * down d - n * down e) D (coarser i))
    ]
  where
    finer : Into (down d) (down e) → down d ≤ p * down d - n * down e
    finer i =
        let q : n * down e ≡ n * i.times * down d = ap (λ (z : ℕ). n * z) i.exact ∙ sym (mul_assoc n i.times (down d)) in
        subst (λ (z : ℕ). down d ≤ p * down d - z) (sym q) (step p (n * i.times) (down d) (subst (λ (z : ℕ). z < p * down d) q h))

    coarser : Into (down e) (down d) → down e ≤ p * down d - n * down e
    coarser i =
        let q : p * down d ≡ p * i.times * down e = ap (λ (z : ℕ). p * z) i.exact ∙ sym (mul_assoc p i.times (down e)) in
        subst (λ (z : ℕ). down e ≤ z - n * down e) (sym q) (step (p * i.times) n (down e) (subst (λ (z : ℕ). n * down e < z) q h))

above_nonzero : (z : Float) → T (above z) → Nonzero z
above_nonzero nan h = absurd h
above_nonzero (inf s) h = tt
above_nonzero (fin true m e) h = absurd h
above_nonzero (fin false m e) h = ltb→lt 0 m h

smallest : round binary64 false 1 (2 ^ low binary64) ≡ fin false 1 (negsuc 1073)
unfolding round
smallest = refl

round_nonzero : (w c : ℕ) → 0 < c → c ≤ w * 2 ^ low binary64 → Nonzero (round binary64 false w c)
round_nonzero w c C h =
    above_nonzero (round binary64 false w c)
    (above_of_le (fin false 1 (negsuc 1073)) (round binary64 false w c) tt
    (subst (λ (z : Float). T (le z (round binary64 false w c))) smallest
    (round_mono binary64 1 (2 ^ low binary64) w c (pow_pos (low binary64)) C (le_trans (le_of_eq (one-mul c)) h))))

sum_nonzero : (s t : Bool) (a b c : ℕ) → 0 < c → b < a → (s ≡ true → a ≡ 0) → (t ≡ true → b ≡ 0) → c ≤ (a - b) * 2 ^ low binary64 → Nonzero (sum binary64 s a (not t) b c)
unfolding sum
sum_nonzero false false a b c C h A B k = rw (le-ltb a b (omega arith)) (round_nonzero (a - b) c C k)
sum_nonzero false true a b c C h A B k = round_nonzero (a + b) c C (subst (λ (z : ℕ). c ≤ z * 2 ^ low binary64) (same (B refl)) k) where
  same : b ≡ 0 → a - b ≡ a + b
  same z = omega arith
sum_nonzero true t a b c C h A B k = absurd (omega (arith, A refl))

pub difference_nonzero : (x y : Float) → Nonnegative x → Nonnegative y → T (fits binary64 x) → T (fits binary64 y) → num y * den x < num x * den y → Nonzero (sub binary64 x y)
unfolding sub add neg
difference_nonzero nan y p q f g h = absurd p
difference_nonzero (inf s) y p q f g h = absurd p
difference_nonzero (fin s m e) nan p q f g h = absurd q
difference_nonzero (fin s m e) (inf t) p q f g h = absurd q
difference_nonzero (fin s m e) (fin t n d) p q f g h =
    sum_nonzero s t (m * up e * down d) (n * up d * down e) (down e * down d) (mul-pos (down_pos e) (down_pos d)) h
    (λ k. no_product m (up e) (down d) (p k))
    (λ k. no_product n (up d) (down e) (q k))
    (apart_by (m * up e) (n * up d) e d (2 ^ low binary64) (fits_den (fin s m e) f) (fits_den (fin t n d) g) h)

-- ---- a value plus a zero

pub pow_back : (i j : ℕ) → 2 ^ i ≤ 2 ^ j → i ≤ j
pow_back i j h = go (leb i j) refl where
  go : (b : Bool) → leb i j ≡ b → i ≤ j
  go true e = leb-true i j e
  go false e = absurd (lt_irrefl (2 ^ i) (lt_of_le_of_lt h (pow-lt (leb-false i j e))))

-- an f64's own fraction is rounded to itself
own : (t s : Bool) (m : ℕ) (e : ℤ) → T (fits binary64 (fin s m e)) → HasValue (round binary64 t (m * up e) (down e)) t (m * up e) (down e)
own t s zero e f =
    subst (λ (x : Float). HasValue x t (0 * up e) (down e)) (sym (ap (λ (n : ℕ). round binary64 t n (down e)) (zero-mul (up e)) ∙ round_zero t (down e) (down_pos e)))
    (refl, zero-mul (down e) ∙ sym (mul-one (0 * up e) ∙ zero-mul (up e)))
own t s (suc m) (pos k) f =
    round_exact binary64 t (suc m * 2 ^ k) 1 (suc m) (k + low binary64) (lit< tt) (few_digits s m (pos k) f)
    (subst (λ (n : ℕ). n < 2 ^ (low binary64 + suc (emax binary64))) shifted (shl_lt (suc (emax binary64)) (low binary64) (lt_of_lt_of_le (under_top s m (pos k) f) (le_of_eq (mul-one (2 ^ suc (emax binary64)))))))
    (shifted ∙ sym (mul-one (suc m * 2 ^ (k + low binary64))))
  where
    shifted : suc m * 2 ^ k * 2 ^ low binary64 ≡ suc m * 2 ^ (k + low binary64)
    shifted = mul_assoc (suc m) (2 ^ k) (2 ^ low binary64) ∙ ap (λ (n : ℕ). suc m * n) (sym (pow-add 2 k (low binary64)))
own t s (suc m) (negsuc k) f =
    round_exact binary64 t (suc m * 1) (2 ^ suc k) (suc m) (low binary64 - suc k) (pow_pos (suc k)) (few_digits s m (negsuc k) f)
    (lt_of_lt_of_le (shl_lt (prec binary64) (low binary64 - suc k) (few_digits s m (negsuc k) f)) (pow_mono {i = prec binary64 + (low binary64 - suc k)} {j = low binary64 + suc (emax binary64)} (omega arith)))
    (ap (λ (n : ℕ). n * 2 ^ low binary64) (mul-one (suc m)) ∙ ap (λ (n : ℕ). suc m * n) whole ∙ sym (mul_assoc (suc m) (2 ^ (low binary64 - suc k)) (2 ^ suc k)))
  where
    whole : 2 ^ low binary64 ≡ 2 ^ (low binary64 - suc k) * 2 ^ suc k
    whole = ap (λ (n : ℕ). 2 ^ n) (sym (back (low binary64) (suc k) (pow_back (suc k) (low binary64) (low_down s m (negsuc k) f)))) ∙ pow-add 2 (low binary64 - suc k) (suc k)

-- what has the fraction of a nonnegative value, and is negative only where that is, equals it
equals : (y : Float) (t s : Bool) (m : ℕ) (e : ℤ) → Nonnegative (fin s m e) → (t ≡ true → s ≡ true) → HasValue y t (m * up e) (down e) → eq y (fin s m e) ≡ true
equals nan t s m e p g v = absurd v
equals (inf r) t s m e p g v = absurd v
equals (fin r n d) t s m e p g v =
    eq_is (fin r n d) (fin s m e) (λ h. zero_factor n (up d) (down e) (up_pos d) (down_pos e) (v.1 ∙ no_product m (up e) (down d) (p (g (sym v.0 ∙ h))))) p
    ∙ eq-eqb (n * up d * down e) (m * up e * down d) v.1

module _ (s : Bool) (m : ℕ) (e : ℤ) (p : Nonnegative (fin s m e)) (f : T (fits binary64 (fin s m e))) where
  rounded : (t : Bool) (w c : ℕ) → (t ≡ true → s ≡ true) → w ≡ m * up e → c ≡ down e → eq (round binary64 t w c) (fin s m e) ≡ true
  rounded t w c g W C = rw (W, C) (equals (round binary64 t (m * up e) (down e)) t s m e p g (own t s m e f))

  plus : (r : Bool) → eq (add binary64 (fin s m e) (Zero r)) (fin s m e) ≡ true
  unfolding add sum
  plus r = go (beq s r) where
    a : ℕ
    a = m * up e * 1

    b : ℕ
    b = 0 * down e

    none : b ≡ 0
    none = zero-mul (down e)

    same : a ≡ m * up e
    same = mul-one (m * up e)

    go : (q : Bool) → eq (cond q (round binary64 s (a + b) (down e * 1)) (cond (ltb a b) (round binary64 r (b - a) (down e * 1)) (round binary64 (s && ltb b a) (a - b) (down e * 1)))) (fin s m e) ≡ true
    go true = rounded s (a + b) (down e * 1) (λ h. h) (omega arith) (mul-one (down e))
    go false = rw (le-ltb a b (omega arith)) (rounded (s && ltb b a) (a - b) (down e * 1) (λ h. (both s (ltb b a) h).0) (omega arith) (mul-one (down e)))

pub plus_zero : (x z : Float) → Nonnegative x → T (fits binary64 x) → IsZero z → eq (add binary64 x z) x ≡ true
plus_zero x z p f i = subst (λ (w : Float). eq (add binary64 x w) x ≡ true) (sym i.same) (go x p f) where
  go : (x : Float) → Nonnegative x → T (fits binary64 x) → eq (add binary64 x (Zero i.sign)) x ≡ true
  go nan p f = absurd p
  go (inf s) p f = absurd p
  go (fin s m e) p f = plus s m e p f i.sign
