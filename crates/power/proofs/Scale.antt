-- How near e, which has ten digits, and X, which has K places, come to the power of ten that both stand for; and that e rises.
use mathlib.Core.Path.{◌≡◌, sym}
use Prim.Native.Nat.{ℕ, zero, suc, ◌+◌, ◌*◌, ◌/◌, ◌%◌, ◌^◌, ◌≤◌, ◌<◌}
use native.Mathlib.Nat.{one-le-pow, mul_comm, mul_left_comm, mul-le-mul_left, mul-le-mul_right, pow-suc, pow-lt-pow_left, div-add-mod, le_refl, le_trans, lt_of_le_of_lt}
use native.Mathlib.Decide.{le_ind, dec_lt}
use native.Mathlib.Numerals.{add-one}
use native.Mathlib.Omega.{arith}
use lib.Dec.{lit<, lit≤}
use lib.Pow.{pow-add}
use Rattle.power.specs.Power.{X, m, e, G}
use Rattle.std.proofs.lemmas.Nat.{mul-pow}
use Rattle.power.proofs.Arithmetic.{lt_of_pow}
use Rattle.power.proofs.Search.{root_only}
use Rattle.power.proofs.Cut.{Cut, over, cross, join, up, X_cut}

-- the next number of e's length: e and it differ by one part in G at the most
past : ℕ → ℕ
past c = (m (c % 1000) + 1) * 10 ^ (c / 1000)

e_cut : (c : ℕ) → Cut G c (e c) (past c)
unfolding e past
e_cut c = rw (div-add-mod c 1000) at (up (c / 1000) (X_cut 9 (c % 1000)))

past_near : (c : ℕ) → G * past c ≤ (G + 1) * e c
unfolding e past
past_near c =
    let room : G < m (c % 1000) + 1 = over (X_cut 9 (c % 1000)) in
    omega (arith, mul-le-mul_right (10 ^ (c / 1000)) room)

pub e_positive : (c : ℕ) → 0 < e c
e_positive c = omega (arith, past_near c, over (e_cut c))

-- the two bounds: X in terms of e, one part in G off at the most, and e in terms of X
pub X_below_e : (K c : ℕ) → G * X K c * G < (G + 1) * e c * 10 ^ K
X_below_e K c =
    omega (arith, mul-le-mul_right (10 ^ K) (past_near c), cross (one-le-pow K 10 (lit< tt)) (X_cut K c) (e_cut c))

pub e_below_X : (K c : ℕ) → e c * 10 ^ K < (X K c + 1) * G
e_below_X K c = cross (lit< tt) (e_cut c) (X_cut K c)

-- a mantissa, by its thousandth power and that of the next number
pub m_is : (f p : ℕ) → p ^ 1000 ≤ 10 ^ (9000 + f) → 10 ^ (9000 + f) < (p + 1) ^ 1000 → m f ≡ p
unfolding X
m_is f p low high = sym (root_only 1000 (10 ^ (9000 + f)) p (lit< tt) low high)

-- one level more is once more the power at level 1
m_one : m 1 ≡ 1002305238
m_one = m_is 1 1002305238 (lit≤ tt) (lit< tt)

next_cut : (c : ℕ) → Cut (G * G) (c + 1) (e c * 1002305238) (past c * 1002305239)
next_cut c = join (e_cut c) (rw m_one at (X_cut 9 1))

pub e_rises : (c : ℕ) → e c < e (c + 1)
e_rises c = omega (arith, past_near (c + 1), cross (lit< tt) (next_cut c) (e_cut (c + 1)))

pub e_step : (c : ℕ) → G * G * e (c + 1) < (G + 1) * 1002305239 * e c
e_step c = omega (arith, past_near c, cross (lit< tt) (e_cut (c + 1)) (next_cut c))

pub e_below_next_X : (K c : ℕ) → e c * 1002305238 * 10 ^ K < (X K (c + 1) + 1) * (G * G)
e_below_next_X K c = cross (lit< tt) (next_cut c) (X_cut K (c + 1))

pub e_mono : {c d : ℕ} → c ≤ d → e c ≤ e d
e_mono {c} {d} h = le_ind (λ n. e c ≤ e n) (le_refl (e c)) (λ n l i. rw (← add-one n) (omega (arith, e_rises n))) d h

-- a level is less than its power
pub below_e : (c : ℕ) → c < e c
below_e zero = e_positive 0
below_e (suc c) = rw (← add-one c) (omega (arith, below_e c, e_rises c))

-- the mantissas at both ends of a thousand levels
pub m_zero : m 0 ≡ G
m_zero = m_is 0 G (lit≤ tt) (lit< tt)

pub m_thousand : m 1000 ≡ 10 * G
m_thousand = m_is 1000 (10 * G) (lit≤ tt) (lit< tt)

pub e_zero : e 0 ≡ G
unfolding e
e_zero = rw m_zero

-- e at a level of which quotient and rest are given; the rest may be a thousand
pub e_at : (q f : ℕ) → f ≤ 1000 → e (1000 * q + f) ≡ m f * 10 ^ q
unfolding e
e_at q f h = elim (dec_lt f 1000) [ yes u ↦ inside u | no v ↦ ends (omega arith) ]
  where
    inside : f < 1000 → m ((1000 * q + f) % 1000) * 10 ^ ((1000 * q + f) / 1000) ≡ m f * 10 ^ q
    inside u =
        let r : (1000 * q + f) % 1000 ≡ f = omega arith in
        let d : (1000 * q + f) / 1000 ≡ q = omega arith in
        rw (r, d)

    ends : f ≡ 1000 → m ((1000 * q + f) % 1000) * 10 ^ ((1000 * q + f) / 1000) ≡ m f * 10 ^ q
    ends v =
        let r : (1000 * q + f) % 1000 ≡ 0 = omega arith in
        let d : (1000 * q + f) / 1000 ≡ suc q = omega arith in
        rw (r, d, v, m_zero, m_thousand, pow-suc) (omega arith)

-- a level that is higher by whole tens of decibels has a power of as many digits more
pub e_higher : (k c : ℕ) → e (1000 * k + c) ≡ 10 ^ k * e c
unfolding e
e_higher k c =
    let r : (1000 * k + c) % 1000 ≡ c % 1000 = omega arith in
    let d : (1000 * k + c) / 1000 ≡ k + c / 1000 = omega arith in
    rw (r, d, pow-add 10 k (c / 1000)) (mul_left_comm (m (c % 1000)) (10 ^ k) (10 ^ (c / 1000)))
