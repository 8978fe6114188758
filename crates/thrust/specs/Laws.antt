-- Document 02, W-206: what is promised beside the computation. It is exact at each row, its answer is a number, the lower row is
-- the last one, and nothing behind the first rows is read.
use Rattle.std.specs.Prelude.{◌≡◌, true, false, not, List, ℕ, suc, ◌≤◌, ◌<◌, T, Float}
use Rattle.std.specs.Float.{binary64}
use Rattle.std.specs.Float.Ieee.{fits, eq, le, is_nan}
use Rattle.quantity.specs.Rules.{Outcome, refused, given}
use Rattle.thrust.specs.Rows.{row_at, fit, lower_place, level_at_thrust}
use Rattle.thrust.specs.declared.Row.{Row}

-- 'At a row's own thrust it equals that row's level as a number (−0 and 0 alike); at the last row it is that level itself, bit for bit.'
pub record AtRow (rows : List Row) (count k : ℕ) (answer : Outcome Float) : Type 0 where
  pub level : Float
  pub is_given : answer ≡ given level
  pub equal : eq level (row_at rows k).level ≡ true
  pub last : suc k ≡ count → level ≡ (row_at rows k).level

-- for every row of those that 20 lets through; so 21 never refuses its thrust
abbrev pub ExactAtRows : List Row → ℕ → Float → Outcome Float → Type 0
ExactAtRows rows count F answer = (k : ℕ) → fit rows count ≡ true → k < count → eq F (row_at rows k).thrust ≡ true → AtRow rows count k answer

-- a level that is given is no NaN. The account of IEEE 754 has a single NaN, so that an equation settles the bits of every other value
abbrev pub IsNumber : Outcome Float → Type 0
IsNumber (refused number) = Unit
IsNumber (given level) = T (not (is_nan level))

-- k is the last place up to n whose thrust is at most F
pub record LastAtMost (rows : List Row) (F : Float) (n k : ℕ) : Type 0 where
  pub inside : k ≤ n
  pub at_most : le (row_at rows k).thrust F ≡ true
  pub later : (j : ℕ) → k < j → j ≤ n → le (row_at rows j).thrust F ≡ false

-- such is the place of the lower row, where the first thrust is at most F
abbrev pub LowerIsLast : Type 0
LowerIsLast = (rows : List Row) (F : Float) (n : ℕ) → le (row_at rows 0).thrust F ≡ true → LastAtMost rows F n (lower_place rows F n)

-- each number of the first rows is an f64, as those of a caller are
abbrev pub AreFloats : List Row → (count : ℕ) → Type 0
AreFloats rows count = (k : ℕ) → k < count → T (fits binary64 (row_at rows k).thrust) × T (fits binary64 (row_at rows k).level)

-- the same rows at the first places
abbrev pub Alike : List Row → List Row → (count : ℕ) → Type 0
Alike rows others count = (k : ℕ) → k < count → row_at rows k ≡ row_at others k

-- such rows have the same answer, whatever stands behind them
abbrev pub FirstRowsAlone : Type 0
FirstRowsAlone = (rows others : List Row) (count : ℕ) (F : Float) → Alike rows others count → level_at_thrust rows count F ≡ level_at_thrust others count F
