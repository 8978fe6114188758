-- Laws of powers that the library lacks.
use mathlib.Core.Path.{◌≡◌}
use Prim.Native.Nat.{ℕ, zero, suc, ◌*◌, ◌^◌, ◌<◌}
use native.Mathlib.Nat.{mul-zero, mul-suc, pow-zero, pow-suc, pow-le-pow_left, lt_of_not-le, not-le_of_lt}
use lib.Pow.{pow-add}

pub pow_pow : (a m n : ℕ) → (a ^ m) ^ n ≡ a ^ (m * n)
pow_pow a m zero = simp (pow-zero, mul-zero)
pow_pow a m (suc n) = simp (pow-suc, mul-suc, pow-add, pow_pow a m n)

-- the larger power is that of the larger number
pub lt_of_pow : (n : ℕ) {a b : ℕ} → a ^ n < b ^ n → a < b
lt_of_pow n h = lt_of_not-le (λ l. not-le_of_lt h (pow-le-pow_left l n))
