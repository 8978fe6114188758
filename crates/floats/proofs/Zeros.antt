-- Where an f64 operation gives a zero: a value less its equal, a zero times a finite value, a zero over what is not zero.
use mathlib.Core.Path.{◌≡◌, refl, sym, subst, ◌∙◌}
use Prim.Native.Nat.{ℕ, ◌+◌, ◌-◌, ◌*◌, ◌<◌}
use native.Mathlib.Nat.{zero-mul, mul-zero, mul-pos}
use native.Mathlib.Omega.{arith}
use mathlib.Core.Bool.{Bool, true, false, not}
use lib.IntN.{pos}
use lib.Dec.{T, lit<}
use lib.Ieee.{Float, nan, inf, fin, binary64, up, down, unlike, round, neg, sum, add, sub, mul, div, eq}
use lib.Ieee.Fits.{up_pos, down_pos}
use lib.Ieee.Scale.{round_same, finite}
use borrow.Author.Tests.{le-ltb, eqb-true, ne_eqb}
use Rattle.floats.proofs.Nonnegative.{Nonnegative, no_product, eq_is}

-- 0 with a sign
abbrev pub Zero : Bool → Float
Zero s = fin s 0 (pos 0)

-- a zero of either sign
pub record IsZero (x : Float) : Type 0 where
  pub sign : Bool
  pub same : x ≡ Zero sign

at_one : (s : Bool) → round binary64 s 0 1 ≡ Zero s
unfolding round
at_one true = refl
at_one false = refl

pub round_zero : (s : Bool) (c : ℕ) → 0 < c → round binary64 s 0 c ≡ Zero s
round_zero s c C = round_same binary64 s 0 c 0 1 C (lit< tt) (sym (zero-mul c)) ∙ at_one s

round_none : (s : Bool) (a c : ℕ) → 0 < c → a ≡ 0 → round binary64 s a c ≡ Zero s
round_none s a c C h = rw h (round_zero s c C)

-- ---- a value less its equal

zero_sum : (s t : Bool) (a b c : ℕ) → 0 < c → a ≡ b → (s ≡ true → a ≡ 0) → (t ≡ true → b ≡ 0) → IsZero (sum binary64 s a (not t) b c)
unfolding sum
zero_sum false false a b c C h A B = record { sign = false; same = rw (le-ltb a b (omega arith)) (round_none false (a - b) c C (omega arith)) }
zero_sum false true a b c C h A B = record { sign = false; same = round_none false (a + b) c C (omega (arith, B refl)) }
zero_sum true false a b c C h A B = record { sign = true; same = round_none true (a + b) c C (omega (arith, A refl)) }
zero_sum true true a b c C h A B = record { sign = false; same = rw (le-ltb a b (omega arith), le-ltb b a (omega arith)) (round_none false (a - b) c C (omega arith)) }

pub less_equal : (x y : Float) → Nonnegative x → Nonnegative y → eq x y ≡ true → IsZero (sub binary64 x y)
unfolding sub add neg
less_equal nan y p q h = absurd p
less_equal (inf s) y p q h = absurd p
less_equal (fin s m e) nan p q h = absurd q
less_equal (fin s m e) (inf t) p q h = absurd q
less_equal (fin s m e) (fin t n d) p q h =
    zero_sum s t (m * up e * down d) (n * up d * down e) (down e * down d) (mul-pos (down_pos e) (down_pos d))
    (eqb-true _ _ (sym (eq_is (fin s m e) (fin t n d) p q) ∙ h))
    (λ k. no_product m (up e) (down d) (p k))
    (λ k. no_product n (up d) (down e) (q k))

-- ---- a zero times a finite value, and over what is not zero

pub times_zero : (x y : Float) → T (finite x) → IsZero y → IsZero (mul binary64 x y)
unfolding mul
times_zero x y f z = subst (λ (w : Float). IsZero (mul binary64 x w)) (sym z.same) (go x f z.sign) where
  go : (x : Float) → T (finite x) → (t : Bool) → IsZero (mul binary64 x (Zero t))
  go nan f t = absurd f
  go (inf s) f t = absurd f
  go (fin s m e) f t = record { sign = unlike s t; same = round_none (unlike s t) (m * up e * 0) (down e * 1) (mul-pos (down_pos e) (lit< tt)) (mul-zero (m * up e)) }

-- neither a NaN nor a zero
abbrev pub Nonzero : Float → Type 0
Nonzero nan = ⊥
Nonzero (inf s) = Unit
Nonzero (fin s m e) = 0 < m

pub zero_over : (x y : Float) → IsZero x → Nonzero y → IsZero (div binary64 x y)
unfolding div
zero_over x y z a = subst (λ (w : Float). IsZero (div binary64 w y)) (sym z.same) (go z.sign y a) where
  go : (s : Bool) (y : Float) → Nonzero y → IsZero (div binary64 (Zero s) y)
  go s nan a = absurd a
  go s (inf t) a = record { sign = unlike s t; same = refl }
  go s (fin t n d) a = record {
    sign = unlike s t;
    same = rw (ne_eqb n 0 (λ h. omega arith)) (round_none (unlike s t) (0 * down d) (n * up d * 1) (mul-pos (mul-pos a (up_pos d)) (lit< tt)) (zero-mul (down d)));
  }
