-- Cuts: two neighbouring numbers between which a power lies, said of thousandth powers, and how cuts compare and multiply.
use mathlib.Core.Path.{◌≡◌}
use Prim.Native.Nat.{ℕ, ◌+◌, ◌*◌, ◌^◌, ◌≤◌, ◌<◌}
use native.Mathlib.Nat.{mul_comm, mul-mul-mul_comm, one-le-pow, lt_of_le_of_lt, le_of_lt, le-mul_of_pos_right, mul-le-mul, mul-le-mul_left, mul-le-mul_right, mul-lt-mul_of_pos_right, mul-lt-mul_of_pos_left, pow-suc, pow-le-pow_right, lt_of_lt_of_le}
use native.Mathlib.Omega.{arith}
use lib.Dec.{lit<}
use lib.Pow.{pow-add}
use Rattle.power.specs.Power.{X, m, G}
use Rattle.std.proofs.lemmas.Nat.{mul-pow}
use Rattle.power.proofs.Arithmetic.{pow_pow, lt_of_pow}
use Rattle.power.proofs.Search.{root_law}

-- u ≤ k * 10 ^ (c / 1000) < v
pub record Cut (k c u v : ℕ) : Type 0 where
  pub low : u ^ 1000 ≤ k ^ 1000 * 10 ^ c
  pub high : k ^ 1000 * 10 ^ c < v ^ 1000

pub over : {k c u v : ℕ} → Cut k c u v → k < v
over {k} {c} a = lt_of_pow 1000 (lt_of_le_of_lt (le-mul_of_pos_right (k ^ 1000) (one-le-pow c 10 (lit< tt))) a.high)

-- below a thousand levels there is no further digit
ten_rises : {i j : ℕ} → i < j → 10 ^ i < 10 ^ j
ten_rises {i} h = lt_of_lt_of_le (rw pow-suc (omega (arith, one-le-pow i 10 (lit< tt)))) (pow-le-pow_right {n = 10} (lit< tt) h)

pub under : {k c u v : ℕ} → 0 < k → c < 1000 → Cut k c u v → u < k * 10
under {k} {c} p h a =
    lt_of_pow 1000
    (rw (mul-pow k 10 1000) (lt_of_le_of_lt a.low (mul-lt-mul_of_pos_left (ten_rises h) (one-le-pow 1000 k p))))

-- two cuts at one level compare
pub cross : {k l c u v x y : ℕ} → 0 < k → Cut k c u v → Cut l c x y → u * l < y * k
cross {k} {l} {u = u} {y = y} p a b =
    lt_of_pow 1000
    (rw (mul-pow u l 1000, mul-pow y k 1000)
    (omega (arith, mul-le-mul_right (l ^ 1000) a.low, mul-lt-mul_of_pos_right b.high (one-le-pow 1000 k p))))

-- levels add up in a product
pub join : {k l c d u v x y : ℕ} → Cut k c u v → Cut l d x y → Cut (k * l) (c + d) (u * x) (v * y)
join {k} {l} {c} {d} {u} {v} {x} {y} a b =
    let powers : (k * l) ^ 1000 * 10 ^ (c + d) ≡ k ^ 1000 * 10 ^ c * (l ^ 1000 * 10 ^ d) =
    rw (mul-pow k l 1000, pow-add 10 c d, mul-mul-mul_comm (k ^ 1000) (10 ^ c) (l ^ 1000) (10 ^ d)) in
    record {
      low = rw (powers, mul-pow u x 1000) (mul-le-mul a.low b.low);
      high =
          rw (powers, mul-pow v y 1000)
          (lt_of_le_of_lt (mul-le-mul_left (k ^ 1000 * 10 ^ c) (le_of_lt b.high)) (mul-lt-mul_of_pos_right a.high (omega (arith, b.high))));
    }

-- a thousand levels are one power of ten
tens : (q c : ℕ) → 10 ^ (1000 * q + c) ≡ (10 ^ q) ^ 1000 * 10 ^ c
tens q c = rw (pow-add 10 (1000 * q) c, pow_pow 10 q 1000, mul_comm q 1000)

pub cut : (q c u v : ℕ) → u ^ 1000 ≤ 10 ^ (1000 * q + c) → 10 ^ (1000 * q + c) < v ^ 1000 → Cut (10 ^ q) c u v
cut q c u v l h = record { low = rw (← tens q c) l; high = rw (← tens q c) h }

pub up : {k c u v : ℕ} (q : ℕ) → Cut k c u v → Cut k (1000 * q + c) (u * 10 ^ q) (v * 10 ^ q)
up {k} {c} {u} {v} q a =
    record {
      low = rw (tens q c, mul-pow u (10 ^ q) 1000) (omega (arith, mul-le-mul_right ((10 ^ q) ^ 1000) a.low));
      high =
          rw (tens q c, mul-pow v (10 ^ q) 1000)
          (omega (arith, mul-lt-mul_of_pos_right a.high (one-le-pow 1000 (10 ^ q) (one-le-pow q 10 (lit< tt)))));
    }

-- X(K, c) by its definition
pub X_cut : (K c : ℕ) → Cut (10 ^ K) c (X K c) (X K c + 1)
unfolding X
X_cut K c = let r = root_law 1000 (10 ^ (1000 * K + c)) (lit< tt) in cut K c (X K c) (X K c + 1) r.0 r.1

-- a mantissa has ten digits
pub m_low : (f : ℕ) → G ≤ m f
m_low f = omega (arith, over (X_cut 9 f))

pub m_high : (f : ℕ) → f < 1000 → m f < 10 * G
m_high f h = omega (arith, under (lit< tt) h (X_cut 9 f))
