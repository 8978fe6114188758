-- What is known of rows that refusal 20 lets through: their numbers are not below zero and not too large, and their thrusts rise.
use mathlib.Core.Path.{◌≡◌, sym, ap, ◌∙◌}
use mathlib.Core.Logic.{inl, inr}
use mathlib.Core.Bool.{Bool, true, ◌&&◌, and_assoc}
use mathlib.Core.List.{List}
use Prim.Native.Nat.{ℕ, zero, suc, ◌-◌, ◌*◌, ◌≤◌, ◌<◌}
use native.Mathlib.Nat.{eq-or-lt_of_le, le_of_suc-le-suc, le_of_lt, le_refl}
use native.Mathlib.Omega.{arith}
use lib.Dec.{leb, lit≤}
use lib.Ieee.Positive.{num, den, den_pos}
use borrow.Author.Tests.{le-leb, leb-true, ltb-true}
use Rattle.quantity.proofs.Tests.{both}
use Rattle.floats.specs.Arithmetic.{float_of, within}
use Rattle.floats.proofs.Nonnegative.{Nonnegative, lt_is, through_lt}
use Rattle.floats.proofs.Ranges.{up_to_nonnegative, up_to_most}
use Rattle.floats.proofs.Bounded.{AtMost, of_nonnegative}
use Rattle.thrust.specs.Rows.{row_at, every, in_range, rises, fit}
use Rattle.thrust.specs.declared.Row.{Row}
use Rattle.thrust.proofs.Walking.{step, every_at, every_both}

-- ---- a row in range

module _ (row : Row) (h : in_range row ≡ true) where
  thrust_within : within (float_of 0) (float_of 1000) row.thrust ≡ true
  thrust_within = (both (within (float_of 0) (float_of 1000) row.thrust) (within (float_of 0) (float_of 140) row.level) h).0

  level_within : within (float_of 0) (float_of 140) row.level ≡ true
  level_within = (both (within (float_of 0) (float_of 1000) row.thrust) (within (float_of 0) (float_of 140) row.level) h).1

  thrust_nonnegative : Nonnegative row.thrust
  thrust_nonnegative = up_to_nonnegative 1000 (lit≤ tt) row.thrust thrust_within

  pub level_nonnegative : Nonnegative row.level
  level_nonnegative = up_to_nonnegative 140 (lit≤ tt) row.level level_within

  pub thrust_at_most : num row.thrust ≤ 1000 * den row.thrust
  thrust_at_most = up_to_most 1000 (lit≤ tt) row.thrust thrust_within

  pub level_at_most : num row.level ≤ 140 * den row.level
  level_at_most = up_to_most 140 (lit≤ tt) row.level level_within

-- ---- rows that are fit

pub record Fit (rows : List Row) (count : ℕ) : Type 0 where
  pub some_rows : 2 ≤ count
  pub most_rows : count ≤ 32
  pub all_in_range : every (λ k. in_range (row_at rows k)) count ≡ true
  pub rising : every (rises rows) (count - 1) ≡ true

pub fit_rows : (rows : List Row) (count : ℕ) → fit rows count ≡ true → Fit rows count
unfolding fit
fit_rows rows count h =
    let halves = both (leb 2 count && leb count 32) (every (λ k. in_range (row_at rows k)) count && every (rises rows) (count - 1)) h in
    let counted = both (leb 2 count) (leb count 32) halves.0 in
    let placed = both (every (λ k. in_range (row_at rows k)) count) (every (rises rows) (count - 1)) halves.1 in
    record { some_rows = leb-true 2 count counted.0; most_rows = leb-true count 32 counted.1; all_in_range = placed.0; rising = placed.1 }

pub two_rows : (rows : List Row) (count : ℕ) → fit rows count ≡ true → 2 ≤ count
two_rows rows count h = (fit_rows rows count h).some_rows

-- in one walk: the last row in range, and each other in range with its thrust below the next one
abbrev pub comes_before : List Row → ℕ → Bool
comes_before rows k = in_range (row_at rows k) && rises rows k

pub fit_in_one : (rows : List Row) (count : ℕ) → 2 ≤ count → count ≤ 32 → fit rows count ≡ in_range (row_at rows (count - 1)) && every (comes_before rows) (count - 1)
unfolding fit
fit_in_one rows count h k =
    let inside : ℕ → Bool = λ j. in_range (row_at rows j) in
    rw (le-leb 2 count h, le-leb count 32 k, step inside count (omega arith))
    (and_assoc (inside (count - 1)) (every inside (count - 1)) (every (rises rows) (count - 1))
    ∙ ap (λ (b : Bool). inside (count - 1) && b) (sym (every_both inside (rises rows) (count - 1))))

module _ (rows : List Row) (count : ℕ) (t : Fit rows count) where
  pub last_place : count - 1 < count
  last_place = omega (arith, t.some_rows)

  pub in_range_at : (k : ℕ) → k < count → in_range (row_at rows k) ≡ true
  in_range_at k h = every_at (λ k. in_range (row_at rows k)) count t.all_in_range k h

  pub nonnegative_at : (k : ℕ) → k < count → Nonnegative (row_at rows k).thrust
  nonnegative_at k h = thrust_nonnegative (row_at rows k) (in_range_at k h)

  pub thrust_at : (k : ℕ) → k < count → AtMost 1000 (row_at rows k).thrust
  thrust_at k h = of_nonnegative 1000 (row_at rows k).thrust (nonnegative_at k h) (thrust_at_most (row_at rows k) (in_range_at k h))

  pub level_at : (k : ℕ) → k < count → AtMost 140 (row_at rows k).level
  level_at k h = of_nonnegative 140 (row_at rows k).level (level_nonnegative (row_at rows k) (in_range_at k h)) (level_at_most (row_at rows k) (in_range_at k h))

  -- the thrust of k is at most that of j, or below it
  abbrev UpTo : ℕ → ℕ → Type 0
  UpTo k j = num (row_at rows k).thrust * den (row_at rows j).thrust ≤ num (row_at rows j).thrust * den (row_at rows k).thrust

  abbrev Below : ℕ → ℕ → Type 0
  Below k j = num (row_at rows k).thrust * den (row_at rows j).thrust < num (row_at rows j).thrust * den (row_at rows k).thrust

  -- each thrust is below the next one, so at most each later one, and below it
  next : (k : ℕ) → suc k < count → Below k (suc k)
  next k h =
      ltb-true _ _
      (sym (lt_is (row_at rows k).thrust (row_at rows (suc k)).thrust (nonnegative_at k (omega arith)) (nonnegative_at (suc k) h))
      ∙ every_at (rises rows) (count - 1) t.rising k (omega arith))

  onward : (k j : ℕ) → suc j < count → UpTo k j → Below k (suc j)
  onward k j l h =
      through_lt (num (row_at rows k).thrust) (num (row_at rows j).thrust) (num (row_at rows (suc j)).thrust)
      (den (row_at rows k).thrust) (den (row_at rows j).thrust) (den (row_at rows (suc j)).thrust)
      (den_pos (row_at rows k).thrust) (den_pos (row_at rows j).thrust) h (next j l)

  itself : (k j : ℕ) → k ≡ j → UpTo k j
  itself k j e = rw e (le_refl _)

  pub up_to : (k j : ℕ) → k ≤ j → j < count → UpTo k j
  up_to k zero h l = itself k zero (omega arith)
  up_to k (suc j) h l = elim (eq-or-lt_of_le h) [ inl e ↦ itself k (suc j) e | inr g ↦ le_of_lt (onward k j l (up_to k j (le_of_suc-le-suc g) (omega arith))) ]

  pub strictly : (k j : ℕ) → k < j → j < count → Below k j
  strictly k zero h l = absurd (omega arith)
  strictly k (suc j) h l = onward k j l (up_to k j (le_of_suc-le-suc h) (omega arith))
