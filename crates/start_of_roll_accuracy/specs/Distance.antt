-- Beside what document 02, W-207, asks: the correction that is given lies within 10^-12 dB of the exact value of B.14 or B.15, and it is finite. All numbers here
-- are whole: an angle of t units is t / W degrees, with W units in one (`float_units`), and the decimals of the formulas are counted in billionths.
use Rattle.std.specs.Prelude.{◌≡◌, ℕ, ◌+◌, ◌-◌, ◌*◌, ◌^◌, T, Float}
use Rattle.std.specs.Float.{binary64}
use Rattle.std.specs.Float.Ieee.{fits}
use Rattle.quantity.specs.Rules.{given}
use Rattle.float_units.specs.Units.{units_in_one as W, units_of, Near}
use Rattle.start_of_roll.specs.Correction.{Correction, in_front, beside, behind, correction_at_angle}

-- a decimal in billionths, by its digits and how many of them stand behind the point: 1.553 is `billionths 1553 3`
abbrev pub billionths : (digits places : ℕ) → ℕ
billionths digits places = digits * 10 ^ (9 - places)

-- B.14 without rounding, 51.44 − 1.553 θ + 0.015147 θ² − 0.000047173 θ³: what is added, less what is subtracted, over the bottom, is its value in units
abbrev pub beside_plus : ℕ → ℕ
beside_plus t = billionths 5144 2 * (W * W * W) + billionths 15147 6 * (t * t * W)

abbrev pub beside_minus : ℕ → ℕ
beside_minus t = billionths 1553 3 * (t * W * W) + billionths 47173 9 * (t * t * t)

-- B.15 without rounding, 339.18 − 2.5802 θ − 0.0045545 θ² + 0.000044193 θ³
abbrev pub behind_plus : ℕ → ℕ
behind_plus t = billionths 33918 2 * (W * W * W) + billionths 44193 9 * (t * t * t)

abbrev pub behind_minus : ℕ → ℕ
behind_minus t = billionths 25802 4 * (t * W * W) + billionths 45545 7 * (t * t * W)

abbrev pub bottom : ℕ
bottom = 10 ^ 9 * (W * W)

-- 10^-12 dB is one of so many parts of 1 dB
abbrev pub parts_in_one : ℕ
parts_in_one = 10 ^ 12

-- a correction is finite, and within 10^-12 dB of the exact value of its formula at θ; in front there is none
abbrev pub NearExact : Float → Correction → Type 0
NearExact θ in_front = Unit
NearExact θ (beside correction) = Near parts_in_one correction (beside_plus (units_of θ)) (beside_minus (units_of θ)) bottom
NearExact θ (behind correction) = Near parts_in_one correction (behind_plus (units_of θ)) (behind_minus (units_of θ)) bottom

-- such is every correction that is given
abbrev pub DistanceLaw : Type 0
DistanceLaw = (θ : Float) (correction : Correction) → T (fits binary64 θ) → correction_at_angle θ ≡ given correction → NearExact θ correction
