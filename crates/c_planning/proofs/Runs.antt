-- What is answered for rows in two runs: as for the rows of an array that begins with them.
use Prim.Native.Nat.{◌<◌}
use mathlib.Core.Path.{◌≡◌, sym, ◌∙◌}
use mathlib.Core.Bool.{true≢false}
use mathlib.Core.List.{List}
use lib.ListN.{length}
use lib.Ieee.{Float}
use borrow.Author.Tests.{eq-eqb, ne_eqb}
use Rattle.quantity.specs.Rules.{Outcome, refused}
use Rattle.thrust.specs.Rows.{level_at_thrust}
use Rattle.thrust.specs.Laws.{Alike, IsNumber}
use Rattle.thrust.specs.declared.Row.{Row}
use Rattle.thrust.proofs.Answering.{too_many, unfit}
use Rattle.thrust.proofs.Promised.{Promised}
use Rattle.thrust.proofs.Same.{first_rows_alone, exact_alike}
use Rattle.c_planning.specs.Calls.{rows_of, level_by_runs, ExactByRuns}

module _ (thrusts levels : List Float) (F : Float) where
  -- the three parts of the contract
  abbrev pub ByRuns : Outcome Float → Type 0
  ByRuns answer = (answer ≡ level_by_runs thrusts levels F) × (ExactByRuns thrusts levels F answer × IsNumber answer)

  of_equal : length levels ≡ length thrusts → level_at_thrust (rows_of thrusts levels) (length thrusts) F ≡ level_by_runs thrusts levels F
  of_equal e = rw (eq-eqb (length levels) (length thrusts) e)

  pub unequal : (length levels ≡ length thrusts → ⊥) → ByRuns (refused 20)
  unequal h = (rw (ne_eqb (length levels) (length thrusts) h), ((λ e. absurd (h e)), tt))

  pub beyond : length levels ≡ length thrusts → 32 < length thrusts → ByRuns (refused 20)
  beyond e h =
      let f = too_many (rows_of thrusts levels) (length thrusts) h in
      (unfit (rows_of thrusts levels) (length thrusts) F f ∙ of_equal e, ((λ _ k t. absurd (true≢false (sym t ∙ f))), tt))

  pub by_array : (rows : List Row) {answer : Outcome Float} → length levels ≡ length thrusts → Alike rows (rows_of thrusts levels) (length thrusts) → Promised rows (length thrusts) F answer → ByRuns answer
  by_array rows e h p =
      (p.0 ∙ first_rows_alone rows (rows_of thrusts levels) (length thrusts) F h ∙ of_equal e, ((λ _. exact_alike rows (rows_of thrusts levels) (length thrusts) F h p.1.0), p.1.1))
