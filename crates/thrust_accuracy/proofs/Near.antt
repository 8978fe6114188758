-- The two laws of a level that is given: it is near the exact value of B.3, and it is finite.
use mathlib.Core.Path.{◌≡◌, refl, sym, ◌∙◌, subst}
use mathlib.Core.Bool.{Bool, true, false, cond}
use mathlib.Core.List.{List}
use Prim.Native.Nat.{ℕ, suc, ◌-◌, ◌*◌, ◌≤◌, ◌<◌}
use native.Mathlib.Nat.{le_of_lt, lt-suc_self}
use native.Mathlib.Omega.{arith}
use lib.Dec.{T, eqb, lit<}
use lib.Ieee.{Float, binary64, fits, le}
use lib.Ieee.Positive.{num, den}
use lib.Ieee.Scale.{finite}
use borrow.Author.Tests.{not-false, leb-true, leb-false, eqb-false, ne_eqb}
use Rattle.quantity.specs.Rules.{first_of, given}
use Rattle.quantity.proofs.Tests.{both}
use Rattle.quantity.proofs.Refusing.{Pass, pass}
use Rattle.quantity.proofs.Outcomes.{given_value}
use Rattle.floats.proofs.Nonnegative.{Nonnegative, le_is}
use Rattle.floats.proofs.Bounded.{is_finite}
use Rattle.thrust.specs.Rows.{row_at, fit, spans, thrust_rules, lower_place, level_between, level_from, level_at_thrust}
use Rattle.thrust.specs.Laws.{LastAtMost, AreFloats}
use Rattle.thrust.specs.declared.Row.{Row}
use Rattle.thrust.proofs.Walking.{lower_is_last}
use Rattle.thrust.proofs.Fit.{Fit, fit_rows, in_range_at, nonnegative_at, level_nonnegative, thrust_at_most, level_at_most, level_at, strictly}
use Rattle.thrust.proofs.Numbers.{F_nonnegative}
use Rattle.float_units.specs.Units.{units_of, Near}
use Rattle.float_units.proofs.Units.{sized, units_le, units_lt, units_most}
use Rattle.thrust_accuracy.specs.Distance.{exact_top, exact_bottom, parts_in_one, least_apart, DistanceLaw, FiniteLaw}
use Rattle.thrust_accuracy.proofs.Between.{Setting, level_finite, level_near}

module _ (rows : List Row) (count : ℕ) (F level : Float) (floats : AreFloats rows count) (f : T (fits binary64 F)) (g : level_at_thrust rows count F ≡ given level) where
  abbrev place : ℕ
  place = lower_place rows F (count - 1)

  -- no rule refuses, and the level is that of the lower row on
  answered : (first_of (thrust_rules rows count F) ≡ 0) × (level_from rows (count - 1) F place ≡ level)
  answered = given_value (first_of (thrust_rules rows count F)) g

  passed : Pass (thrust_rules rows count F)
  passed = pass (thrust_rules rows count F) (lit< tt, (lit< tt, tt)) answered.0

  rows_fit : Fit rows count
  rows_fit = fit_rows rows count (not-false (fit rows count) passed.0)

  spanned : spans rows (count - 1) F ≡ true
  spanned = not-false (spans rows (count - 1) F) passed.1.0

  lower : LastAtMost rows F (count - 1) place
  lower = lower_is_last rows F (count - 1) (both (le (row_at rows 0).thrust F) (le F (row_at rows (count - 1)).thrust) spanned).0

  inside : place < count
  inside = omega (arith, rows_fit.some_rows, lower.inside)

  nonnegative : Nonnegative F
  nonnegative = F_nonnegative rows count F rows_fit spanned

  -- between the lower row and the next one
  module _ (u : suc place < count) where
    abbrev row : Row
    row = row_at rows place

    abbrev next : Row
    next = row_at rows (suc place)

    lower_most : num row.thrust * den F ≤ num F * den row.thrust
    lower_most = leb-true _ _ (sym (le_is row.thrust F (nonnegative_at rows count rows_fit place inside) nonnegative) ∙ lower.at_most)

    below_next : num F * den next.thrust < num next.thrust * den F
    below_next =
        leb-false _ _ (sym (le_is next.thrust F (nonnegative_at rows count rows_fit (suc place) u) nonnegative) ∙ lower.later (suc place) (lt-suc_self place) (omega arith))

    setting : Setting row.level next.level F row.thrust next.thrust (units_of row.level) (units_of next.level) (units_of F) (units_of row.thrust) (units_of next.thrust)
    setting = record {
      lower_level = sized row.level (level_nonnegative row (in_range_at rows count rows_fit place inside)) (floats place inside).1;
      upper_level = sized next.level (level_nonnegative next (in_range_at rows count rows_fit (suc place) u)) (floats (suc place) u).1;
      thrust = sized F nonnegative f;
      lower_thrust = sized row.thrust (nonnegative_at rows count rows_fit place inside) (floats place inside).0;
      upper_thrust = sized next.thrust (nonnegative_at rows count rows_fit (suc place) u) (floats (suc place) u).0;
      lower_most = units_most row.level 140 (floats place inside).1 (level_at_most row (in_range_at rows count rows_fit place inside));
      upper_most = units_most next.level 140 (floats (suc place) u).1 (level_at_most next (in_range_at rows count rows_fit (suc place) u));
      from = units_le row.thrust F (floats place inside).0 f lower_most;
      to = units_le F next.thrust f (floats (suc place) u).0 (le_of_lt below_next);
      rise = units_lt row.thrust next.thrust (floats place inside).0 (floats (suc place) u).0 (strictly rows count rows_fit place (suc place) (lt-suc_self place) u);
      highest = units_most next.thrust 1000 (floats (suc place) u).0 (thrust_at_most next (in_range_at rows count rows_fit (suc place) u));
    }

    between : level_between row next F ≡ level
    between = rw (ne_eqb place (count - 1) (λ e. omega arith)) at answered.1

    between_near : least_apart ≤ exact_bottom row next → Near parts_in_one (level_between row next F) (exact_top row next F) 0 (exact_bottom row next)
    unfolding level_between
    between_near wide = level_near setting wide

    given_near : least_apart ≤ exact_bottom row next → Near parts_in_one level (exact_top row next F) 0 (exact_bottom row next)
    given_near wide = subst (λ (z : Float). Near parts_in_one z (exact_top row next F) 0 (exact_bottom row next)) between (between_near wide)

    between_finite : T (finite (level_between row next F))
    unfolding level_between
    between_finite = level_finite setting

  given_finite : T (finite level)
  given_finite = subst (λ (z : Float). T (finite z)) answered.1 (go (eqb place (count - 1)) refl) where
    go : (b : Bool) → eqb place (count - 1) ≡ b → T (finite (cond b (row_at rows place).level (level_between (row_at rows place) (row_at rows (suc place)) F)))
    go true e = is_finite 140 (row_at rows place).level (level_at rows count rows_fit place inside)
    go false e = between_finite (omega (arith, inside, eqb-false place (count - 1) e))

pub distance_law : DistanceLaw
distance_law rows count F level floats f g u wide = given_near rows count F level floats f g u wide

pub finite_law : FiniteLaw
finite_law rows count F level floats f g = given_finite rows count F level floats f g
