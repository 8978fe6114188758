-- Document 02, W-207: the correction for points behind the start of roll, at an angle θ in degrees (source document 000, formulas B.14 and B.15), and refusal 22.
use Rattle.std.specs.Prelude.{not, cond, List, [], ◌∷◌, T, Float, Result}
use Rattle.std.specs.Float.Ieee.{lt, le}
use Rattle.std.specs.Float.Ieee.Scale.{finite}
use Rattle.quantity.specs.Answers.{outcome_of}
use Rattle.quantity.specs.Rules.{Rule, first_of, Outcome, refused, given, outcome}
use Rattle.quantity.specs.declared.Refusal.{Refusal}
use Rattle.floats.specs.Arithmetic.{float_of, decimal, ◌+ᶠ◌, ◌-ᶠ◌, ◌*ᶠ◌, within}
use Rattle.start_of_roll.specs.declared.Correction as declared
use Rattle.start_of_roll.specs.declared.Correction.TheVariants.{InFront, Beside, Behind}

-- in front 'with no number'; beside and behind, 'each with its own correction in dB'
pub data Correction : Type 0 where
  in_front : Correction
  beside : Float → Correction
  behind : Float → Correction

-- 'Powers of the angle are made by repeated multiplication from the left'
abbrev pub square : Float → Float
square θ = θ *ᶠ θ

abbrev pub cube : Float → Float
cube θ = θ *ᶠ θ *ᶠ θ

-- B.14: 51.44 − 1.553 θ + 0.015147 θ² − 0.000047173 θ³, 'terms are added as document 000 lists them'
unfoldable pub beside_at : Float → Float
beside_at θ = decimal 5144 2 -ᶠ decimal 1553 3 *ᶠ θ +ᶠ decimal 15147 6 *ᶠ square θ -ᶠ decimal 47173 9 *ᶠ cube θ

-- B.15: 339.18 − 2.5802 θ − 0.0045545 θ² + 0.000044193 θ³
unfoldable pub behind_at : Float → Float
behind_at θ = decimal 33918 2 -ᶠ decimal 25802 4 *ᶠ θ -ᶠ decimal 45545 7 *ᶠ square θ +ᶠ decimal 44193 9 *ᶠ cube θ

-- 'Refusal 22: an angle not from 0 to 180, NaN included'
abbrev pub angle_rules : Float → List Rule
angle_rules θ = record { number = 22; refuses = not (within (float_of 0) (float_of 180) θ) } ∷ []

-- 'Below 90' in front; 'from 90 to 148.4' beside, 'and above that to 180' behind
abbrev pub placed : Float → Correction
placed θ = cond (lt θ (float_of 90)) in_front (cond (le θ (decimal 1484 1)) (beside (beside_at θ)) (behind (behind_at θ)))

-- the correction at an angle
abbrev pub correction_at_angle : Float → Outcome Correction
correction_at_angle θ = outcome (first_of (angle_rules θ)) (placed θ)

-- what the cases of an answer stand for: the correction, or the number of a refusal
abbrev pub correction_reading : declared.Correction → Correction
correction_reading InFront = in_front
correction_reading (Beside correction) = beside correction
correction_reading (Behind correction) = behind correction

abbrev pub answer_reading : Result declared.Correction Refusal → Outcome Correction
answer_reading = outcome_of correction_reading

-- a correction that is given is finite, so no NaN. The account of IEEE 754 has a single NaN, so that an equation settles the bits of every other value
abbrev pub IsFinite : Outcome Correction → Type 0
IsFinite (refused number) = Unit
IsFinite (given in_front) = Unit
IsFinite (given (beside correction)) = T (finite correction)
IsFinite (given (behind correction)) = T (finite correction)
