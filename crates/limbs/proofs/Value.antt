-- The number that a run of limbs is: of a part of the run, after a store, and its bounds.
use Prim.Native.Nat.{ℕ, suc, zero, ◌+◌, ◌*◌, ◌-◌, ◌%◌, ◌^◌, ◌≤◌, ◌<◌}
use mathlib.Core.Path.{◌≡◌, refl, ap, sym, ◌∙◌}
use mathlib.Core.List.{List, [], ◌∷◌, ◌++◌}
use native.Mathlib.Nat.{mul_assoc, pow-zero, pow-suc, one-le-pow, pow-le-pow_right, mul-le-mul_right, lt_of_lt_of_le}
use native.Mathlib.Numerals.{add-one}
use native.Mathlib.Omega.{arith}
use lib.ListN.{length, take, drop, get_or, set, replicate}
use borrow.Author.Tests.{lt-ltb, le-ltb, apart_eqb}
use lib.Dec.{ltb}
use Rattle.std.specs.Prelude.{◌==◌}
use Rattle.std.specs.List.{list_all}
use lib.Seq.{drop-cons, take-length, take-set-le, get_or-set_same}
use Rattle.limbs.specs.Value.{base, value}

-- each element is a limb: below the base
abbrev pub Limbs : List ℕ → Type 0
Limbs a = (j : ℕ) → get_or a j 0 < base

pub limbs_set : (a : List ℕ) (i v : ℕ) → Limbs a → v < base → Limbs (set a i v)
limbs_set [] i v f h j = f j
limbs_set (x ∷ xs) zero v f h zero = h
limbs_set (x ∷ xs) zero v f h (suc j) = f (suc j)
limbs_set (x ∷ xs) (suc i) v f h zero = f 0
limbs_set (x ∷ xs) (suc i) v f h (suc j) = limbs_set xs i v (λ k. f (suc k)) h j

pub value_none : value [] ≡ 0
unfolding value
value_none = refl

pub value_pair : (low high : ℕ) → value (low ∷ high ∷ []) ≡ low + high * base
unfolding value
value_pair low high = omega arith

-- limbs that are filled up with 0
pub value_filled : (a : List ℕ) (n : ℕ) → value (a ++ replicate n 0) ≡ value a
unfolding value
value_filled [] zero = refl
value_filled [] (suc n) = omega (arith, value_filled [] n)
value_filled (x ∷ xs) n = rw (value_filled xs n) refl

-- the limb at i is the top of the i + 1 lowest, and the lowest of those from i on
value_more : (a : List ℕ) (i : ℕ) → value (take (suc i) a) ≡ value (take i a) + get_or a i 0 * base ^ i
unfolding value
value_more [] zero = refl
value_more [] (suc i) = omega arith
value_more (x ∷ xs) zero = rw pow-zero (omega arith)
value_more (x ∷ xs) (suc i) =
    rw (value_more xs i, pow-suc base i, ← mul_assoc (get_or xs i 0) (base ^ i) base) (omega arith)

pub value_take : (a : List ℕ) (i : ℕ) → value (take (i + 1) a) ≡ value (take i a) + get_or a i 0 * base ^ i
value_take a i = rw add-one (value_more a i)

pub value_top : (a : List ℕ) (i : ℕ) → 0 < i → value (take i a) ≡ value (take (i - 1) a) + get_or a (i - 1) 0 * base ^ (i - 1)
value_top a i h =
    let e : i ≡ i - 1 + 1 = omega arith in
    ap (λ (n : ℕ). value (take n a)) e ∙ value_take a (i - 1)

module _ (a : List ℕ) (i : ℕ) (h : i < length a) where
  pub value_take_set : (v : ℕ) → value (take (i + 1) (set a i v)) ≡ value (take i a) + v * base ^ i
  value_take_set v = rw (value_take (set a i v) i, take-set-le i a i v (omega arith), get_or-set_same a i v 0 h)

  pub value_drop : value (drop i a) ≡ get_or a i 0 + base * value (drop (i + 1) a)
  unfolding value
  value_drop = rw (add-one, drop-cons a i 0 h) refl

-- what has room in i limbs has room in k
pub below_wider : (i k : ℕ) {n : ℕ} → i ≤ k → n < base ^ i → n < base ^ k
below_wider i k h l = lt_of_lt_of_le l (pow-le-pow_right {n = base} (omega arith) h)

-- the i lowest limbs are below base ^ i
pub value_take_below : (a : List ℕ) → Limbs a → (i : ℕ) → value (take i a) < base ^ i
unfolding value
value_take_below a f zero = rw pow-zero (omega arith)
value_take_below [] f (suc i) = one-le-pow (suc i) base (omega arith)
value_take_below (x ∷ xs) f (suc i) = rw pow-suc (omega (arith, f 0, value_take_below xs (λ j. f (suc j)) i))

pub value_below : (a : List ℕ) → Limbs a → value a < base ^ length a
value_below a f = rw (take-length a) at (value_take_below a f (length a))

-- the number modulo base * base is that of the two lowest limbs
pub value_low : (a : List ℕ) → get_or a 0 0 < base → get_or a 1 0 < base → value a % (base * base) ≡ get_or a 0 0 + get_or a 1 0 * base
unfolding value
value_low [] f g = refl
value_low (x ∷ []) f g = omega arith
value_low (x ∷ y ∷ xs) f g = omega arith

-- limbs are all 0 where their number is
are_zero : (a : List ℕ) → list_all (λ x. x == 0) a ≡ ltb (value a) 1
unfolding value
are_zero [] = refl
are_zero (zero ∷ xs) = are_zero xs ∙ below (value xs)
  where
    below : (n : ℕ) → ltb n 1 ≡ ltb (0 + base * n) 1
    below zero = refl
    below (suc n) = le-ltb (suc n) 1 (omega arith) ∙ sym (le-ltb (0 + base * suc n) 1 (omega arith))
are_zero (suc x ∷ xs) = rw (apart_eqb (suc x) 0 (λ e. omega arith)) (sym (le-ltb (suc x + base * value xs) 1 (omega arith)))

-- two limbs hold a number of two limbs, and one of which those above are 0
pub two_limbs : (a : List ℕ) → Limbs a → length a ≤ 2 → value a < base * base
two_limbs a f h = below_wider (length a) 2 h (value_below a f)

pub above_zero : (a : List ℕ) → Limbs a → 2 ≤ length a → list_all (λ x. x == 0) (drop 2 a) ≡ ltb (value a) (base * base)
unfolding value
above_zero [] f h = absurd (omega arith)
above_zero (x ∷ []) f h = absurd (omega arith)
above_zero (x ∷ y ∷ xs) f h = are_zero xs ∙ above (value xs)
  where
    above : (n : ℕ) → ltb n 1 ≡ ltb (x + base * (y + base * n)) (base * base)
    above zero = sym (lt-ltb (x + base * (y + base * 0)) (base * base) (omega (arith, f 0, f 1)))
    above (suc n) = le-ltb (suc n) 1 (omega arith) ∙ sym (le-ltb (x + base * (y + base * suc n)) (base * base) (omega arith))
