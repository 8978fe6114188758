-- The largest number that passes a test, and the whole root.
use mathlib.Core.Path.{◌≡◌, refl}
use mathlib.Core.Bool.{Bool, true, false, not}
use Prim.Native.Nat.{ℕ, zero, suc, ◌+◌, ◌^◌, ◌≤◌, ◌<◌}
use native.Mathlib.Nat.{zero-lt-suc, pow-suc, pow-succ', le-mul_of_pos_right, one-le-pow, lt_of_le_of_lt}
use native.Mathlib.Numerals.{add-one}
use native.Mathlib.Omega.{arith}
use lib.Dec.{T, T_not, not_T, leb, leb→le, le→leb, nleb→lt}
use Rattle.power.specs.Root.{greatest, root}
use Rattle.power.proofs.Arithmetic.{lt_of_pow}

-- where 0 passes and b does not, the number found passes and the next does not
turn : (f : ℕ → Bool) (b : ℕ) → T (f 0) → T (not (f b)) → T (f (greatest f b)) × T (not (f (suc (greatest f b))))
unfolding greatest
turn f zero p q = absurd (T_not (f 0) q p)
turn f (suc b) p q = go (f b) refl (turn f b p)
  where
    found : Bool → ℕ
    found v = elim v [ true ↦ b | false ↦ greatest f b ]

    go : (v : Bool)
        → f b ≡ v
        → (T (not (f b)) → T (f (greatest f b)) × T (not (f (suc (greatest f b)))))
        → T (f (found v)) × T (not (f (suc (found v))))
    go true e ih = (rw e tt, q)
    go false e ih = ih (rw e tt)

-- the largest r with g r ≤ x
pub turn_le : (g : ℕ → ℕ) (x b : ℕ) → g 0 ≤ x → x < g b → let r = greatest (λ i. leb (g i) x) b in (g r ≤ x) × (x < g (r + 1))
turn_le g x b p q =
    let r = greatest (λ i. leb (g i) x) b in
    let t = turn (λ i. leb (g i) x) b (le→leb (g 0) x p) (not_T (leb (g b) x) (λ s. omega (arith, leb→le (g b) x s))) in
    (leb→le (g r) x t.0, rw add-one (nleb→lt (g (suc r)) x t.1))

pub root_law : (n x : ℕ) → 0 < n → (root n x ^ n ≤ x) × (x < (root n x + 1) ^ n)
unfolding root
root_law zero x h = omega arith
root_law (suc n) x h =
    turn_le (λ p. p ^ suc n) x (suc x)
    (omega (arith, pow-suc 0 n))
    (rw pow-succ' (le-mul_of_pos_right (suc x) (one-le-pow n (suc x) (zero-lt-suc x))))

-- no other number is the whole root
pub root_only : (n x p : ℕ) → 0 < n → p ^ n ≤ x → x < (p + 1) ^ n → p ≡ root n x
root_only n x p h low high =
    let r = root_law n x h in
    omega (arith, lt_of_pow n (lt_of_le_of_lt low r.1), lt_of_pow n (lt_of_le_of_lt r.0 high))
