-- What the contract promises of an answer, for each answer that is the one of the definition.
use Prim.Native.Nat.{ℕ, ◌≤◌}
use mathlib.Core.Path.{◌≡◌, sym, subst}
use mathlib.Core.List.{List}
use lib.Ieee.{Float}
use Rattle.quantity.specs.Rules.{Outcome}
use Rattle.thrust.specs.Rows.{level_at_thrust}
use Rattle.thrust.specs.Laws.{AreFloats, ExactAtRows, IsNumber}
use Rattle.thrust.specs.declared.Row.{Row}
use Rattle.thrust.proofs.Numbers.{number_given}
use Rattle.thrust.proofs.Exact.{exact_at_rows}

-- the three parts of the contract
abbrev pub Promised : List Row → ℕ → Float → Outcome Float → Type 0
Promised rows count F answer = (answer ≡ level_at_thrust rows count F) × (ExactAtRows rows count F answer × IsNumber answer)

pub promised : (rows : List Row) (count : ℕ) (F : Float) → (count ≤ 32 → AreFloats rows count) → {answer : Outcome Float} → answer ≡ level_at_thrust rows count F → Promised rows count F answer
promised rows count F floats e =
    (e, (subst (ExactAtRows rows count F) (sym e) (exact_at_rows rows count F floats), subst IsNumber (sym e) (number_given rows count F floats)))
