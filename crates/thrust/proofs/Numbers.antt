-- No level that is given is a NaN: the differences are finite, and that of the thrusts is no zero.
use mathlib.Core.Path.{◌≡◌, refl, sym, subst, ◌∙◌}
use mathlib.Core.Bool.{Bool, true, false, not, cond}
use mathlib.Core.List.{List}
use Prim.Native.Nat.{ℕ, suc, ◌-◌, ◌≤◌, ◌<◌}
use native.Mathlib.Nat.{le_trans, le_of_eq, mul-one, lt-suc_self}
use native.Mathlib.Omega.{arith}
use lib.Dec.{T, eqb, lit≤}
use lib.Ieee.{Float, le, is_nan}
use lib.Ieee.Positive.{num, den, den_pos, through}
use borrow.Author.Tests.{leb-true, eqb-false}
use Rattle.quantity.proofs.Tests.{test, both}
use Rattle.floats.proofs.Nonnegative.{Nonnegative, within_nonnegative, le_is}
use Rattle.floats.proofs.Exact.{difference_nonzero}
use Rattle.floats.proofs.Bounded.{AtMost, no_nan, of_nonnegative, times, minus, over, plus_number}
use Rattle.thrust.specs.Rows.{row_at, fit, spans, lower_place, level_between, level_from, level_at_thrust}
use Rattle.thrust.specs.Laws.{AreFloats, IsNumber}
use Rattle.thrust.specs.declared.Row.{Row}
use Rattle.thrust.proofs.Walking.{lower_inside}
use Rattle.thrust.proofs.Fit.{Fit, fit_rows, last_place, in_range_at, nonnegative_at, thrust_at_most, thrust_at, level_at, strictly}
use Rattle.thrust.proofs.Answering.{unfit, outside, inside}

module _ (rows : List Row) (count : ℕ) (F : Float) (t : Fit rows count) (s : spans rows (count - 1) F ≡ true) where
  pub F_nonnegative : Nonnegative F
  F_nonnegative =
      within_nonnegative (row_at rows 0).thrust F (row_at rows (count - 1)).thrust (nonnegative_at rows count t 0 (omega (arith, t.some_rows)))
      (nonnegative_at rows count t (count - 1) (last_place rows count t)) s

  F_at_most : AtMost 1000 F
  F_at_most =
      let top = (row_at rows (count - 1)).thrust in
      of_nonnegative 1000 F F_nonnegative
      (le_trans (le_of_eq (sym (mul-one (num F))))
      (through (num F) (num top) 1000 (den F) (den top) 1 (den_pos top)
      (leb-true _ _ (sym (le_is F top F_nonnegative (nonnegative_at rows count t (count - 1) (last_place rows count t))) ∙ (both (le (row_at rows 0).thrust F) (le F top) s).1))
      (le_trans (le_of_eq (mul-one (num top))) (thrust_at_most (row_at rows (count - 1)) (in_range_at rows count t (count - 1) (last_place rows count t))))))

  module _ (floats : AreFloats rows count) (k : ℕ) (h : k < count) where
    between_number : suc k < count → T (not (is_nan (level_between (row_at rows k) (row_at rows (suc k)) F)))
    unfolding level_between
    between_number u =
        plus_number 140 _ _ (level_at rows count t k h)
        (over 560000 2000 _ _
        (times 280 2000 _ _ (minus 140 140 _ _ (level_at rows count t (suc k) u) (level_at rows count t k h) (lit≤ tt)) (minus 1000 1000 _ _ F_at_most (thrust_at rows count t k h) (lit≤ tt)) (lit≤ tt))
        (minus 1000 1000 _ _ (thrust_at rows count t (suc k) u) (thrust_at rows count t k h) (lit≤ tt))
        (difference_nonzero (row_at rows (suc k)).thrust (row_at rows k).thrust (nonnegative_at rows count t (suc k) u) (nonnegative_at rows count t k h) (floats (suc k) u).0 (floats k h).0
        (strictly rows count t k (suc k) (lt-suc_self k) u)))

    level_number : T (not (is_nan (level_from rows (count - 1) F k)))
    level_number = go (eqb k (count - 1)) refl where
      go : (b : Bool) → eqb k (count - 1) ≡ b → T (not (is_nan (cond b (row_at rows k).level (level_between (row_at rows k) (row_at rows (suc k)) F))))
      go true e = no_nan 140 _ (level_at rows count t k h)
      go false e = between_number (omega (arith, h, eqb-false k (count - 1) e))

-- so the answer is a number, where it is a level
pub number_given : (rows : List Row) (count : ℕ) (F : Float) → (count ≤ 32 → AreFloats rows count) → IsNumber (level_at_thrust rows count F)
number_given rows count F floats = test (fit rows count) fitting (λ f. subst IsNumber (unfit rows count F f) tt) where
  fitting : fit rows count ≡ true → IsNumber (level_at_thrust rows count F)
  fitting f =
      let t = fit_rows rows count f in
      let last = count - 1 in
      test (spans rows last F)
      (λ s. subst IsNumber (inside rows count F f s)
      (level_number rows count F t s (floats t.most_rows) (lower_place rows F last) (omega (arith, t.some_rows, lower_inside rows F last))))
      (λ s. subst IsNumber (outside rows count F f s) tt)
