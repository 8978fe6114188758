-- The values that are finite and not below zero, −0 included: their comparisons are those of fractions.
use mathlib.Core.Path.{◌≡◌, refl, sym, subst, ◌∙◌}
use mathlib.Core.Logic.{inl, inr}
use Prim.Native.Nat.{ℕ, ◌*◌, ◌≤◌, ◌<◌}
use native.Mathlib.Nat.{le_of_lt, le_of_eq, lt_irrefl, zero-mul, zero-add, mul-pos, mul_right_comm, mul-le-mul_right, mul-lt-mul_of_pos_right, lt_of_le_of_lt, lt_of_lt_of_le, lt_of_mul-lt-mul_right, eq-zero-or-pos}
use native.Mathlib.Omega.{arith}
use mathlib.Core.Bool.{Bool, true, false, ◌&&◌, ◌||◌, and-true, and_self, true≢false}
use lib.Dec.{leb, ltb, eqb}
use lib.Arith.{lt_of_le-ne}
use lib.Ieee.{Float, nan, inf, fin, up, down, below, level, lt, eq, le}
use lib.Ieee.Exact.{HasValue}
use lib.Ieee.Fits.{up_pos, down_pos}
use lib.Ieee.Positive.{num, den}
use borrow.Author.Tests.{ltb-true, ltb-false, eqb-true, eqb-false, le-ltb, le-leb, lt-leb, eq-eqb}
use Rattle.quantity.proofs.Tests.{both}
use Rattle.floats.specs.Arithmetic.{within}

-- finite, and negative at most as −0
abbrev pub Nonnegative : Float → Type 0
Nonnegative nan = ⊥
Nonnegative (inf s) = ⊥
Nonnegative (fin s m e) = s ≡ true → m ≡ 0

pub value_nonnegative : (y : Float) (a c : ℕ) → HasValue y false a c → Nonnegative y
value_nonnegative nan a c v = absurd v
value_nonnegative (inf s) a c v = absurd v
value_nonnegative (fin s m e) a c v = λ h. absurd (true≢false (sym h ∙ v.0))

-- ---- the comparisons

-- a product with 0 in front
pub no_product : (m u d : ℕ) → m ≡ 0 → m * u * d ≡ 0
no_product m u d h = rw (h, zero-mul u, zero-mul d)

pub zero_factor : (m u d : ℕ) → 0 < u → 0 < d → m * u * d ≡ 0 → m ≡ 0
zero_factor m u d U D h = elim (eq-zero-or-pos m) [ inl z ↦ z | inr p ↦ absurd (lt_irrefl 0 (subst (λ (n : ℕ). 0 < n) h (mul-pos (mul-pos p U) D))) ]

below_is : (s t : Bool) (a b : ℕ) → (s ≡ true → a ≡ 0) → (t ≡ true → b ≡ 0) → below s a t b ≡ ltb a b
below_is false false a b A B = refl
below_is false true a b A B = sym (le-ltb a b (omega (arith, B refl)))
below_is true false a b A B = rw (A refl, zero-add b)
below_is true true a b A B = rw (A refl, B refl)

level_is : (s t : Bool) (a b : ℕ) → (s ≡ true → a ≡ 0) → (t ≡ true → b ≡ 0) → level s a t b ≡ eqb a b
level_is false false a b A B = and-true (eqb a b)
level_is false true a b A B = rw (B refl) (and_self (eqb a 0))
level_is true false a b A B = rw (A refl) (and-true (eqb 0 b))
level_is true true a b A B = and-true (eqb a b)

at_most : (a b : ℕ) → ltb a b || eqb a b ≡ leb a b
at_most a b = go (ltb a b) refl (eqb a b) refl where
  go : (p : Bool) → ltb a b ≡ p → (q : Bool) → eqb a b ≡ q → p || q ≡ leb a b
  go true p q r = sym (le-leb a b (le_of_lt (ltb-true a b p)))
  go false p true r = sym (le-leb a b (le_of_eq (eqb-true a b r)))
  go false p false r = sym (lt-leb a b (lt_of_le-ne (ltb-false a b p) (λ h. eqb-false a b r (sym h))))

pub lt_is : (x y : Float) → Nonnegative x → Nonnegative y → lt x y ≡ ltb (num x * den y) (num y * den x)
unfolding lt
lt_is nan y p q = absurd p
lt_is (inf s) y p q = absurd p
lt_is (fin s m e) nan p q = absurd q
lt_is (fin s m e) (inf t) p q = absurd q
lt_is (fin s m e) (fin t n d) p q = below_is s t _ _ (λ h. no_product m (up e) (down d) (p h)) (λ h. no_product n (up d) (down e) (q h))

pub eq_is : (x y : Float) → Nonnegative x → Nonnegative y → eq x y ≡ eqb (num x * den y) (num y * den x)
unfolding eq
eq_is nan y p q = absurd p
eq_is (inf s) y p q = absurd p
eq_is (fin s m e) nan p q = absurd q
eq_is (fin s m e) (inf t) p q = absurd q
eq_is (fin s m e) (fin t n d) p q = level_is s t _ _ (λ h. no_product m (up e) (down d) (p h)) (λ h. no_product n (up d) (down e) (q h))

pub le_is : (x y : Float) → Nonnegative x → Nonnegative y → le x y ≡ leb (num x * den y) (num y * den x)
unfolding le
le_is x y p q = rw (lt_is x y p q, eq_is x y p q) (at_most (num x * den y) (num y * den x))

-- ---- what lies between two such values is one

none_below : (a b : ℕ) → a ≡ 0 → ltb b a || (eqb a b && true) ≡ true → b ≡ 0
none_below a b z h = go (ltb b a) refl (eqb a b) refl h where
  go : (p : Bool) → ltb b a ≡ p → (q : Bool) → eqb a b ≡ q → p || (q && true) ≡ true → b ≡ 0
  go true p q r h = absurd (omega (arith, z, ltb-true b a p))
  go false p true r h = omega (arith, z, eqb-true a b r)
  go false p false r h = absurd (true≢false (sym h))

both_zero : (a b : ℕ) → eqb a b && eqb a 0 ≡ true → b ≡ 0
both_zero a b h = go (eqb a b) refl (eqb a 0) refl h where
  go : (p : Bool) → eqb a b ≡ p → (q : Bool) → eqb a 0 ≡ q → p && q ≡ true → b ≡ 0
  go true p true r h = omega (arith, eqb-true a b p, eqb-true a 0 r)
  go true p false r h = absurd (true≢false (sym h))
  go false p q r h = absurd (true≢false (sym h))

pub between : (x z y : Float) → Nonnegative x → Nonnegative y → le x z ≡ true → le z y ≡ true → Nonnegative z
unfolding le
between nan z y p q h k = absurd p
between (inf s) z y p q h k = absurd p
between (fin s m e) nan y p q h k = absurd (true≢false (sym h))
between (fin s m e) (inf true) y p q h k = absurd (true≢false (sym h))
between (fin s m e) (inf false) nan p q h k = absurd q
between (fin s m e) (inf false) (inf t) p q h k = absurd q
between (fin s m e) (inf false) (fin t n d) p q h k = absurd (true≢false (sym k))
between (fin s m e) (fin false n d) y p q h k = λ f. absurd (true≢false (sym f))
between (fin false m e) (fin true n d) y p q h k = λ f. zero_factor n (up d) (down e) (up_pos d) (down_pos e) (both_zero (m * up e * down d) (n * up d * down e) h)
between (fin true m e) (fin true n d) y p q h k =
    λ f. zero_factor n (up d) (down e) (up_pos d) (down_pos e) (none_below (m * up e * down d) (n * up d * down e) (no_product m (up e) (down d) (p refl)) h)

pub within_nonnegative : (x z y : Float) → Nonnegative x → Nonnegative y → within x y z ≡ true → Nonnegative z
within_nonnegative x z y p q h = between x z y p q (both (le x z) (le z y) h).0 (both (le x z) (le z y) h).1

-- ---- fractions in order: x / p < y / q and so on

pub through_lt : (x y z p q r : ℕ) → 0 < p → 0 < q → x * q ≤ y * p → y * r < z * q → x * r < z * p
through_lt x y z p q r P Q h k =
    lt_of_mul-lt-mul_right q
    (lt_of_le_of_lt (le_of_eq (mul_right_comm x r q))
    (lt_of_le_of_lt (mul-le-mul_right r h)
    (lt_of_le_of_lt (le_of_eq (mul_right_comm y p r))
    (lt_of_lt_of_le (mul-lt-mul_of_pos_right k P) (le_of_eq (mul_right_comm z q p))))))

-- ---- what equals such a value is one

pub equal_nonnegative : (x y : Float) → Nonnegative y → eq x y ≡ true → Nonnegative x
unfolding eq
equal_nonnegative nan y q h = absurd (true≢false (sym h))
equal_nonnegative (inf s) nan q h = absurd q
equal_nonnegative (inf s) (inf t) q h = absurd q
equal_nonnegative (inf s) (fin t n d) q h = absurd (true≢false (sym h))
equal_nonnegative (fin s m e) nan q h = absurd q
equal_nonnegative (fin s m e) (inf t) q h = absurd q
equal_nonnegative (fin false m e) (fin t n d) q h = λ f. absurd (true≢false (sym f))
equal_nonnegative (fin true m e) (fin true n d) q h =
    λ f. zero_factor m (up e) (down d) (up_pos e) (down_pos d) (eqb-true _ _ (both (eqb (m * up e * down d) (n * up d * down e)) true h).0 ∙ no_product n (up d) (down e) (q refl))
equal_nonnegative (fin true m e) (fin false n d) q h =
    λ f. zero_factor m (up e) (down d) (up_pos e) (down_pos d) (eqb-true _ _ (both (eqb (m * up e * down d) (n * up d * down e)) (eqb (m * up e * down d) 0) h).1)

pub equals_itself : (x : Float) → Nonnegative x → eq x x ≡ true
equals_itself x p = eq_is x x p p ∙ eq-eqb (num x * den x) (num x * den x) refl
