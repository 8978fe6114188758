-- The verdict of document 01 over plain numbers: what exceeds its limit, the margin, and the refusals in their order.
use Rattle.std.specs.Prelude.{ℕ, Bool, false, not, ◌&&◌, List, [], ◌∷◌, leb, ltb, ℤ, pos, ◌-ℤ◌}
use Rattle.std.proofs.Math.Option.{Option, some, none}
use Rattle.std.specs.Int.Signed.{lt_z}
use Rattle.quantity.specs.Answers as quantity
use Rattle.quantity.specs.Answers.{Reading}
use Rattle.quantity.specs.Limits.{highest_sample}
use Rattle.quantity.specs.Scale.{is_reading_outside}
use Rattle.quantity.specs.Rules.{Rule, first_of, Outcome, outcome}
use Rattle.land.specs.Classes.{I, II, IV, limit_of}

-- what 'the verdict names': no limit, or whether the level and whether the maximum is over
pub data Finding : Type 0 where
  over : (level maximum : Bool) → Finding
  no_limit : Finding

-- a verdict: what it names, and the margin
pub record Assessment : Type 0 where
  pub finding : Finding
  pub margin : Option ℤ

-- a level that is there exceeds a bound
abbrev pub exceeds : Option ℕ → ℕ → Bool
exceeds (some l) bound = ltb bound l
exceeds none bound = false

-- 'Verdict': limit − YLdn, signed; none for class IV or below scale
abbrev pub margin_of : Option ℕ → Reading → Option ℤ
margin_of (some limit) (quantity.level yearly) = some (pos limit -ℤ yearly)
margin_of (some limit) quantity.below_scale = none
margin_of none yearly = none

-- 'Verdict', over level: the margin is negative
abbrev pub negative : Option ℤ → Bool
negative (some margin) = lt_z margin (pos 0)
negative none = false

-- 'Verdict': Lmax at a sensitive building
abbrev pub highest_maximum : ℕ
highest_maximum = 9000

-- 'Verdict', over maximum: class I or II, sensitive building, Lmax > 9000
abbrev pub over_maximum : ℕ → Bool → Option ℕ → Bool
over_maximum class sensitive highest = leb class II && (sensitive && exceeds highest highest_maximum)

-- 'Verdict': no limit where the class has none
abbrev pub finding_of : Option ℕ → Option ℤ → Bool → Finding
finding_of none margin maximum = no_limit
finding_of (some limit) margin maximum = over (negative margin) maximum

-- 'Refused calls' 15: land class not 1 to 4, or code unknown
abbrev pub unknown_class : ℕ → Rule
unknown_class class = record { number = 15; refuses = not (leb I class && leb class IV) }

-- 'Refused calls': verdict 15, 14, 4
abbrev pub refusals : ℕ → Reading → Option ℕ → List Rule
refusals class yearly highest =
    unknown_class class
    ∷ record { number = 14; refuses = is_reading_outside yearly }
    ∷ record { number = 4; refuses = exceeds highest highest_sample }
    ∷ []

-- the class of a land code, or refusal 15
abbrev pub land_class_of : ℕ → Outcome ℕ
land_class_of class = outcome (first_of (unknown_class class ∷ [])) class

-- 'Verdict': what is answered for a class, a year's level, a sensitive building or none, and the highest Lmax
abbrev pub verdict_of : ℕ → Reading → Bool → Option ℕ → Outcome Assessment
verdict_of class yearly sensitive highest =
    outcome (first_of (refusals class yearly highest))
    (record {
      finding = finding_of (limit_of class) (margin_of (limit_of class) yearly) (over_maximum class sensitive highest);
      margin = margin_of (limit_of class) yearly;
    })
