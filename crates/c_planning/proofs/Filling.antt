-- Rows put into an array one after the other.
use Prim.Native.Nat.{ℕ, zero, suc, ◌+◌, ◌≤◌, ◌<◌}
use native.Mathlib.Nat.{eq-or-lt_of_le, le_of_suc-le-suc}
use native.Mathlib.Omega.{arith}
use mathlib.Core.Path.{◌≡◌, refl, ◌∙◌}
use mathlib.Core.Logic.{inl, inr}
use mathlib.Core.List.{List, [], ◌∷◌}
use lib.ListN.{length, get_or, set, length-set}
use lib.Seq.{get_or-set_same}
use lib.Ieee.{Float, nan}
use borrow.Author.Rules.{read_below}
use Rattle.thrust.specs.Rows.{row_at}
use Rattle.thrust.specs.Laws.{Alike}
use Rattle.thrust.specs.declared.Row.{Row}
use Rattle.c_planning.specs.Calls.{rows_of}

row_at_lem : (thrusts levels : List Float) → length levels ≡ length thrusts → (k : ℕ) → k < length thrusts
    → record { thrust = get_or thrusts k nan; level = get_or levels k nan } ≡ row_at (rows_of thrusts levels) k
row_at_lem [] levels e k h = absurd (omega arith)
row_at_lem (thrust ∷ thrusts) [] e k h = absurd (omega arith)
row_at_lem (thrust ∷ thrusts) (level ∷ levels) e zero h = refl
row_at_lem (thrust ∷ thrusts) (level ∷ levels) e (suc k) h = row_at_lem thrusts levels (omega arith) k (le_of_suc-le-suc h)

-- the first rows stand in an array of 32 places
pub record Filled (thrusts levels : List Float) (rows : List Row) (count : ℕ) : Type 0 where
  pub inside : count ≤ length thrusts
  pub places : length rows ≡ 32
  pub alike : Alike rows (rows_of thrusts levels) count

-- no row yet, and one row more
pub filled_none : (thrusts levels : List Float) (rows : List Row) → length rows ≡ 32 → Filled thrusts levels rows 0
filled_none thrusts levels rows e = record { inside = omega arith; places = e; alike = λ k h. absurd (omega arith) }

pub filled_more : (thrusts levels : List Float) (rows : List Row) (i : ℕ) → length levels ≡ length thrusts → length thrusts ≤ 32 → i < length thrusts
    → Filled thrusts levels rows i → Filled thrusts levels (set rows i (record { thrust = get_or thrusts i nan; level = get_or levels i nan })) (i + 1)
filled_more thrusts levels rows i e most h f = record { inside = omega arith; places = length-set rows i _ ∙ f.places; alike = alike }
  where
    new : Row
    new = record { thrust = get_or thrusts i nan; level = get_or levels i nan }

    here : row_at (set rows i new) i ≡ row_at (rows_of thrusts levels) i
    here = get_or-set_same rows i new _ (omega (arith, f.places)) ∙ row_at_lem thrusts levels e i h

    alike : Alike (set rows i new) (rows_of thrusts levels) (i + 1)
    alike k l = elim (eq-or-lt_of_le {n = k} {m = i} (omega arith)) [ inl q ↦ rw q here | inr g ↦ read_below Row rows i k new _ _ g (f.alike k g) ]
