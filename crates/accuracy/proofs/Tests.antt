-- Tests that come to the same.
use mathlib.Core.Path.{◌≡◌, refl, sym}
use mathlib.Core.Bool.{Bool, true, false, ◌||◌, cond}
use Prim.Native.Nat.{ℕ, ◌≤◌}
use native.Mathlib.Nat.{le_trans}
use native.Mathlib.Omega.{arith}
use borrow.Author.Tests.{leb-true, le-leb, lt-leb, eqb-true, eqb-false}
use lib.Dec.{leb, eqb}
use Rattle.quantity.proofs.Tests.{test}

-- what holds of two answers holds of either
pub cond_both : {A : Type 0} (P : A → Type 0) (v : Bool) {a b : A} → P a → P b → P (cond v a b)
cond_both P true p q = p
cond_both P false p q = q

-- a second limit that is not below the first is not observable
pub first_limit : (n most k : ℕ) → n ≤ most → leb n k || leb most k ≡ leb n k
first_limit n most k h = weaker (leb n k) (leb most k) (λ t. le-leb n k (le_trans h (leb-true most k t)))
  where
    weaker : (a b : Bool) → (b ≡ true → a ≡ true) → a || b ≡ a
    weaker true b g = refl
    weaker false true g = sym (g refl)
    weaker false false g = refl

-- a count that does not pass its limit has reached it where it is equal to it
pub reached_equal : (count limit : ℕ) → count ≤ limit → leb limit count ≡ eqb count limit
reached_equal count limit h =
    test (eqb count limit)
    (λ t. rw t (le-leb limit count (omega (arith, eqb-true count limit t))))
    (λ f. rw f (lt-leb limit count (omega (arith, eqb-false count limit f))))
