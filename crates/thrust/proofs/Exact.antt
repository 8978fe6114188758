-- B.3 is exact at each row: there the lower row is that row, the thrust above it is a zero, and so is what is added to its level.
use mathlib.Core.Path.{◌≡◌, refl, sym, ap, ◌∙◌}
use mathlib.Core.Logic.{inl, inr}
use mathlib.Core.Bool.{Bool, true, false, cond}
use mathlib.Core.List.{List}
use Prim.Native.Nat.{ℕ, zero, suc, ◌-◌, ◌*◌, ◌≤◌, ◌<◌}
use native.Mathlib.Nat.{eq-or-lt_of_le, le_of_suc-le-suc, le_of_eq, lt-suc_self}
use native.Mathlib.Numerals.{sub-one}
use native.Mathlib.Omega.{arith}
use lib.Dec.{eqb, lit≤}
use lib.Ieee.{Float, eq, le}
use lib.Ieee.Positive.{num, den, den_pos, through}
use borrow.Author.Tests.{le-leb, lt-leb, eqb-true, eqb-false, eq-eqb}
use Rattle.quantity.specs.Rules.{given}
use Rattle.floats.specs.Arithmetic.{◌-ᶠ◌}
use Rattle.floats.proofs.Nonnegative.{Nonnegative, equal_nonnegative, equals_itself, eq_is, le_is, through_lt}
use Rattle.floats.proofs.Zeros.{less_equal, times_zero, zero_over}
use Rattle.floats.proofs.Bounded.{is_finite, minus}
use Rattle.floats.proofs.Exact.{difference_nonzero, plus_zero}
use Rattle.thrust.specs.Rows.{row_at, fit, spans, lower_place, level_between, level_from, level_at_thrust}
use Rattle.thrust.specs.Laws.{AreFloats, ExactAtRows}
use Rattle.thrust.specs.declared.Row.{Row}
use Rattle.thrust.proofs.Walking.{lower_here, lower_below}
use Rattle.thrust.proofs.Fit.{Fit, fit_rows, last_place, in_range_at, nonnegative_at, level_nonnegative, level_at, up_to, strictly}
use Rattle.thrust.proofs.Answering.{inside}

module _ (rows : List Row) (count : ℕ) (F : Float) (k : ℕ) (t : Fit rows count) (h : k < count) (e : eq F (row_at rows k).thrust ≡ true) where
  -- ---- the lower row is the row k

  F_nonnegative : Nonnegative F
  F_nonnegative = equal_nonnegative F (row_at rows k).thrust (nonnegative_at rows count t k h) e

  cross : num F * den (row_at rows k).thrust ≡ num (row_at rows k).thrust * den F
  cross = eqb-true _ _ (sym (eq_is F (row_at rows k).thrust F_nonnegative (nonnegative_at rows count t k h)) ∙ e)

  -- a thrust up to that of k is at most F, F is at most a thrust from that of k on, and a later thrust is above F
  at_most_F : (j : ℕ) → j ≤ k → le (row_at rows j).thrust F ≡ true
  at_most_F j l =
      le_is (row_at rows j).thrust F (nonnegative_at rows count t j (omega arith)) F_nonnegative
      ∙ le-leb _ _ (through (num (row_at rows j).thrust) (num (row_at rows k).thrust) (num F) (den (row_at rows j).thrust) (den (row_at rows k).thrust) (den F)
      (den_pos (row_at rows k).thrust) (up_to rows count t j k l h) (le_of_eq (sym cross)))

  F_at_most : (j : ℕ) → k ≤ j → j < count → le F (row_at rows j).thrust ≡ true
  F_at_most j l u =
      le_is F (row_at rows j).thrust F_nonnegative (nonnegative_at rows count t j u)
      ∙ le-leb _ _ (through (num F) (num (row_at rows k).thrust) (num (row_at rows j).thrust) (den F) (den (row_at rows k).thrust) (den (row_at rows j).thrust)
      (den_pos (row_at rows k).thrust) (le_of_eq cross) (up_to rows count t k j l u))

  above_F : (j : ℕ) → k < j → j < count → le (row_at rows j).thrust F ≡ false
  above_F j l u =
      le_is (row_at rows j).thrust F (nonnegative_at rows count t j u) F_nonnegative
      ∙ lt-leb _ _ (through_lt (num F) (num (row_at rows k).thrust) (num (row_at rows j).thrust) (den F) (den (row_at rows k).thrust) (den (row_at rows j).thrust)
      (den_pos F) (den_pos (row_at rows k).thrust) (le_of_eq cross) (strictly rows count t k j l u))

  lower_is : (n : ℕ) → k ≤ n → n < count → lower_place rows F n ≡ k
  lower_is zero l u = lower_here rows F zero (at_most_F zero (omega arith)) ∙ omega arith
  lower_is (suc n) l u =
      elim (eq-or-lt_of_le l) [
        | inl q ↦ lower_here rows F (suc n) (at_most_F (suc n) (omega arith)) ∙ sym q
        | inr g ↦ lower_below rows F (suc n) (omega arith) (above_F (suc n) g u) ∙ ap (lower_place rows F) (sub-one (suc n)) ∙ lower_is n (le_of_suc-le-suc g) (omega arith)
      ]

  -- ---- no rule refuses, and the level is that of the row

  spanned : spans rows (count - 1) F ≡ true
  spanned = rw (at_most_F 0 (omega arith), F_at_most (count - 1) (omega arith) (last_place rows count t))

  given_level : fit rows count ≡ true → level_at_thrust rows count F ≡ given (level_from rows (count - 1) F k)
  given_level f =
      sym (inside rows count F f spanned)
      ∙ ap (λ (j : ℕ). given (level_from rows (count - 1) F j)) (lower_is (count - 1) (omega arith) (last_place rows count t))

  at_last : suc k ≡ count → level_from rows (count - 1) F k ≡ (row_at rows k).level
  at_last l = rw (eq-eqb k (count - 1) (omega arith))

  module _ (floats : AreFloats rows count) where
    -- between two rows, at the thrust of the first
    at_lower : suc k < count → eq (level_between (row_at rows k) (row_at rows (suc k)) F) (row_at rows k).level ≡ true
    unfolding level_between
    at_lower u =
        plus_zero (row_at rows k).level _ (level_nonnegative (row_at rows k) (in_range_at rows count t k h)) (floats k h).1
        (zero_over _ _
        (times_zero _ _ (is_finite 280 ((row_at rows (suc k)).level -ᶠ (row_at rows k).level) (minus 140 140 _ _ (level_at rows count t (suc k) u) (level_at rows count t k h) (lit≤ tt)))
        (less_equal F (row_at rows k).thrust F_nonnegative (nonnegative_at rows count t k h) e))
        (difference_nonzero (row_at rows (suc k)).thrust (row_at rows k).thrust (nonnegative_at rows count t (suc k) u) (nonnegative_at rows count t k h) (floats (suc k) u).0 (floats k h).0
        (strictly rows count t k (suc k) (lt-suc_self k) u)))

    equal_level : eq (level_from rows (count - 1) F k) (row_at rows k).level ≡ true
    equal_level = go (eqb k (count - 1)) refl where
      go : (b : Bool) → eqb k (count - 1) ≡ b → eq (cond b (row_at rows k).level (level_between (row_at rows k) (row_at rows (suc k)) F)) (row_at rows k).level ≡ true
      go true q = equals_itself (row_at rows k).level (level_nonnegative (row_at rows k) (in_range_at rows count t k h))
      go false q = at_lower (omega (arith, h, eqb-false k (count - 1) q))

pub exact_at_rows : (rows : List Row) (count : ℕ) (F : Float) → (count ≤ 32 → AreFloats rows count) → ExactAtRows rows count F (level_at_thrust rows count F)
exact_at_rows rows count F floats k f h e =
    let t = fit_rows rows count f in
    record {
      level = level_from rows (count - 1) F k;
      is_given = given_level rows count F k t h e f;
      equal = equal_level rows count F k t h e (floats t.most_rows);
      last = at_last rows count F k t h e;
    }
