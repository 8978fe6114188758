-- Document 02, W-206: the level at a thrust F between two rows (source document 000, formula B.3), and refusals 20 and 21.
use Rattle.std.specs.Prelude.{ℕ, zero, suc, ◌-◌, Bool, true, not, cond, ◌&&◌, List, [], ◌∷◌, leb, eqb, get_or, Float, Result}
use Rattle.std.specs.Float.{nan}
use Rattle.std.specs.Float.Ieee.{lt, le}
use Rattle.quantity.specs.Answers.{outcome_of}
use Rattle.quantity.specs.Rules.{Rule, first_of, Outcome, outcome}
use Rattle.quantity.specs.declared.Refusal.{Refusal}
use Rattle.floats.specs.Arithmetic.{float_of, ◌+ᶠ◌, ◌-ᶠ◌, ◌*ᶠ◌, ◌/ᶠ◌, within}
use Rattle.thrust.specs.declared.Row.{Row}

-- the row at a place, counted from 0
abbrev pub row_at : List Row → ℕ → Row
row_at rows k = get_or rows k (record { thrust = nan; level = nan })

-- a test passes at each of the first n places
unfoldable pub every : (ℕ → Bool) → ℕ → Bool
every p zero = true
every p (suc n) = p n && every p n

-- a thrust 'within 0 to 1000' and a level that is not 'outside 0 to 140'
abbrev pub in_range : Row → Bool
in_range row = within (float_of 0) (float_of 1000) row.thrust && within (float_of 0) (float_of 140) row.level

-- the thrust at a place is below the next one
abbrev pub rises : List Row → ℕ → Bool
rises rows k = lt (row_at rows k).thrust (row_at rows (suc k)).thrust

-- the first `count` rows are not refused by 20: they are not 'fewer than 2 or more than 32', each is in range, and their thrusts are 'strictly rising'
unfoldable pub fit : List Row → ℕ → Bool
fit rows count = (leb 2 count && leb count 32) && (every (λ k. in_range (row_at rows k)) count && every (rises rows) (count - 1))

-- F is 'between first and last thrust'
abbrev pub spans : List Row → (last : ℕ) → Float → Bool
spans rows last F = within (row_at rows 0).thrust (row_at rows last).thrust F

-- 'Refusal 20', and 'Refusal 21, checked after it'
abbrev pub thrust_rules : List Row → ℕ → Float → List Rule
thrust_rules rows count F =
    record { number = 20; refuses = not (fit rows count) }
    ∷ record { number = 21; refuses = not (spans rows (count - 1) F) }
    ∷ []

-- 'The lower row is the last whose thrust is at most F', here of those up to place n; the first row where there is none
unfoldable pub lower_place : List Row → Float → (n : ℕ) → ℕ
lower_place rows F zero = 0
lower_place rows F (suc n) = cond (le (row_at rows (suc n)).thrust F) (suc n) (lower_place rows F n)

-- B.3: 'the lower level plus (difference of levels times (F − lower thrust)) divided by the difference of thrusts'
unfoldable pub level_between : Row → Row → Float → Float
level_between row next F = row.level +ᶠ (next.level -ᶠ row.level) *ᶠ (F -ᶠ row.thrust) /ᶠ (next.thrust -ᶠ row.thrust)

-- the level from the lower row on: 'at the last row it is that level itself'
abbrev pub level_from : List Row → (last : ℕ) → Float → (lower : ℕ) → Float
level_from rows last F lower = cond (eqb lower last) (row_at rows lower).level (level_between (row_at rows lower) (row_at rows (suc lower)) F)

-- the level at F by the first `count` rows
abbrev pub level_at_thrust : List Row → (count : ℕ) → Float → Outcome Float
level_at_thrust rows count F =
    let last = count - 1 in outcome (first_of (thrust_rules rows count F)) (level_from rows last F (lower_place rows F last))

-- the level, or the number of a refusal
abbrev pub thrust_reading : Result Float Refusal → Outcome Float
thrust_reading = outcome_of (λ level. level)
