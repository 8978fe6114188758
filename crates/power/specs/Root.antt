-- The largest number that passes a test, and the whole root.
use Rattle.std.specs.Prelude.{Bool, true, false, ℕ, zero, suc, ◌^◌, leb}

-- the largest number below b that passes the test, 0 where none does
unfoldable pub greatest : (ℕ → Bool) → ℕ → ℕ
greatest f zero = zero
greatest f (suc b) = elim (f b) [ true ↦ b | false ↦ greatest f b ]

-- the whole root: the largest p with p ^ n ≤ x
unfoldable pub root : ℕ → ℕ → ℕ
root n x = greatest (λ p. leb (p ^ n) x) (suc x)
