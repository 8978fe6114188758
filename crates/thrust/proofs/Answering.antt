-- What is answered, by the two rules and by the lower row.
use Prim.Native.Nat.{ℕ, ◌+◌, ◌-◌, ◌<◌}
use native.Mathlib.Omega.{arith}
use native.Mathlib.Numerals.{add-one}
use mathlib.Core.Path.{◌≡◌, refl, ap, ◌∙◌}
use mathlib.Core.Bool.{true, false}
use mathlib.Core.List.{List}
use lib.Ieee.{Float}
use borrow.Author.Tests.{le-leb, lt-leb, eq-eqb, ne_eqb}
use Rattle.quantity.specs.Rules.{refused, given}
use Rattle.quantity.proofs.Refusing.{stops, passes}
use Rattle.thrust.specs.Rows.{row_at, fit, spans, thrust_rules, lower_place, level_between, level_from, level_at_thrust}
use Rattle.thrust.specs.declared.Row.{Row}

-- at the last row its level, at any other the formula with the next one
pub from_last : (rows : List Row) (last : ℕ) (F : Float) (k : ℕ) → k ≡ last → (row_at rows last).level ≡ level_from rows last F k
from_last rows last F k e = rw (e, eq-eqb last last refl)

pub from_lower : (rows : List Row) (last : ℕ) (F : Float) (k : ℕ) → (k ≡ last → ⊥) → level_between (row_at rows k) (row_at rows (k + 1)) F ≡ level_from rows last F k
from_lower rows last F k e = rw (add-one k, ne_eqb k last e)

-- more than 32 rows are not fit
pub too_many : (rows : List Row) (count : ℕ) → 32 < count → fit rows count ≡ false
unfolding fit
too_many rows count h = rw (le-leb 2 count (omega arith), lt-leb count 32 h)

module _ (rows : List Row) (count : ℕ) (F : Float) where
  pub unfit : fit rows count ≡ false → refused 20 ≡ level_at_thrust rows count F
  unfit f = rw (← stops 0 (thrust_rules rows count F) (rw f))

  pub outside : fit rows count ≡ true → spans rows (count - 1) F ≡ false → refused 21 ≡ level_at_thrust rows count F
  outside f s = rw (← stops 1 (thrust_rules rows count F) (rw f, rw s))

  pub inside : fit rows count ≡ true → spans rows (count - 1) F ≡ true → given (level_from rows (count - 1) F (lower_place rows F (count - 1))) ≡ level_at_thrust rows count F
  inside f s = rw (← passes (thrust_rules rows count F) (rw f, (rw s, tt)))

  -- the level from the lower row on is given
  pub at_last : fit rows count ≡ true → spans rows (count - 1) F ≡ true → lower_place rows F (count - 1) ≡ count - 1 → given (row_at rows (count - 1)).level ≡ level_at_thrust rows count F
  at_last f s e = ap given (from_last rows (count - 1) F (lower_place rows F (count - 1)) e) ∙ inside f s

  pub at_lower : (k : ℕ) → fit rows count ≡ true → spans rows (count - 1) F ≡ true → k ≡ lower_place rows F (count - 1) → (k ≡ count - 1 → ⊥)
      → given (level_between (row_at rows k) (row_at rows (k + 1)) F) ≡ level_at_thrust rows count F
  at_lower k f s p e = ap given (from_lower rows (count - 1) F k e ∙ ap (level_from rows (count - 1) F) p) ∙ inside f s
