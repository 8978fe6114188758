-- Document 02, W-206, W-207 and W-212, from C: what each function answers, and what is in what it was lent when it returns. Rows come as two runs, thrusts and levels.
use Rattle.std.specs.Prelude.{◌≡◌, cond, List, [], ◌∷◌, ℕ, eqb, length, Float}
use Rattle.quantity.specs.Rules.{Outcome, refused}
use Rattle.quantity.specs.Lent.{Left, leaves}
use Rattle.thrust.specs.Rows.{level_at_thrust}
use Rattle.thrust.specs.Laws.{ExactAtRows}
use Rattle.thrust.specs.declared.Row.{Row}
use Rattle.start_of_roll.specs.Correction.{Correction, in_front, beside, behind, correction_at_angle}
use Rattle.mixes.specs.Answers.{Answered}

-- the rows of two runs
abbrev pub rows_of : List Float → List Float → List Row
rows_of [] levels = []
rows_of (thrust ∷ thrusts) [] = []
rows_of (thrust ∷ thrusts) (level ∷ levels) = record { thrust = thrust; level = level } ∷ rows_of thrusts levels

-- the level at F by the rows of two runs; runs of unequal length are no rows, and refused by 20
abbrev pub level_by_runs : List Float → List Float → Float → Outcome Float
level_by_runs thrusts levels F = cond (eqb (length levels) (length thrusts)) (level_at_thrust (rows_of thrusts levels) (length thrusts) F) (refused 20)

-- what is promised at each row
abbrev pub ExactByRuns : List Float → List Float → Float → Outcome Float → Type 0
ExactByRuns thrusts levels F answer = length levels ≡ length thrusts → ExactAtRows (rows_of thrusts levels) (length thrusts) F answer

-- the level is written where it is given
abbrev pub level_leaves : Float → List Float → List Float → Float → Left Float
level_leaves level thrusts levels F = leaves level (level_by_runs thrusts levels F) (λ found. found)

-- a correction: where the point lies, as a number, and the correction in dB
pub record CorrectionLent : Type 0 where
  pub position : ℕ
  pub correction : Float

-- in front is 0, beside 1, behind 2; in front, 'with no number', the correction stays as it was
abbrev pub written : CorrectionLent → Correction → CorrectionLent
written lent in_front = record { position = 0; correction = lent.correction }
written lent (beside correction) = record { position = 1; correction = correction }
written lent (behind correction) = record { position = 2; correction = correction }

abbrev pub correction_leaves : CorrectionLent → Float → Left CorrectionLent
correction_leaves lent θ = leaves lent (correction_at_angle θ) (written lent)

-- mixes: how many would pass, and the table
pub record MixesLent : Type 0 where
  pub count : ℕ
  pub table : List ℕ

-- what is left by an answer of the count: the rows of the table are left free
pub record MixesLeave (daytime night : List ℕ) (measured : ℕ) (lent : MixesLent) (left : Left MixesLent) : Type 0 where
  pub result : Outcome ℕ
  pub table : List ℕ
  pub answered : Answered daytime night measured lent.table result table
  pub written : left ≡ leaves lent result (λ count. record { count = count; table = table })
