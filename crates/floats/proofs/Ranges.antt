-- Ranges whose ends are whole numbers: what is from 0 to n is not below zero and at most n, and what is not below n is at least n.
use mathlib.Core.Path.{◌≡◌, sym, ◌∙◌}
use mathlib.Core.Bool.{true, false}
use Prim.Native.Nat.{ℕ, ◌*◌, ◌^◌, ◌≤◌}
use native.Mathlib.Nat.{le_trans, le_of_eq, mul-one}
use lib.Dec.{lit≤}
use lib.Ieee.{Float, binary64, prec, of_int, lt, le}
use lib.Ieee.Back.{round_whole}
use lib.Ieee.Exact.{HasValue}
use lib.Ieee.Positive.{num, den, den_pos, through, value→cross}
use borrow.Author.Tests.{leb-true, ltb-false}
use Rattle.quantity.proofs.Tests.{both}
use Rattle.floats.specs.Arithmetic.{float_of, within}
use Rattle.floats.proofs.Nonnegative.{Nonnegative, value_nonnegative, within_nonnegative, lt_is, le_is}

-- the f64 of a whole number is that number
whole : (n : ℕ) → n ≤ 2 ^ prec binary64 → HasValue (float_of n) false n 1
unfolding of_int
whole n small = round_whole binary64 false n small

whole_nonnegative : (n : ℕ) → n ≤ 2 ^ prec binary64 → Nonnegative (float_of n)
whole_nonnegative n small = value_nonnegative (float_of n) n 1 (whole n small)

module _ (n : ℕ) (small : n ≤ 2 ^ prec binary64) (x : Float) where
  top : num (float_of n) * 1 ≡ n * den (float_of n)
  top = value→cross (float_of n) n 1 (whole n small)

  pub up_to_nonnegative : within (float_of 0) (float_of n) x ≡ true → Nonnegative x
  up_to_nonnegative h = within_nonnegative (float_of 0) x (float_of n) (whole_nonnegative 0 (lit≤ tt)) (whole_nonnegative n small) h

  pub up_to_most : within (float_of 0) (float_of n) x ≡ true → num x ≤ n * den x
  up_to_most h =
      le_trans (le_of_eq (sym (mul-one (num x))))
      (through (num x) (num (float_of n)) n (den x) (den (float_of n)) 1 (den_pos (float_of n))
      (leb-true _ _ (sym (le_is x (float_of n) (up_to_nonnegative h) (whole_nonnegative n small)) ∙ (both (le (float_of 0) x) (le x (float_of n)) h).1))
      (le_of_eq top))

  pub from_least : Nonnegative x → lt x (float_of n) ≡ false → n * den x ≤ num x
  from_least p l =
      le_trans
      (through n (num (float_of n)) (num x) 1 (den (float_of n)) (den x) (den_pos (float_of n))
      (le_of_eq (sym top))
      (ltb-false _ _ (sym (lt_is x (float_of n) p (whole_nonnegative n small)) ∙ l)))
      (le_of_eq (mul-one (num x)))
