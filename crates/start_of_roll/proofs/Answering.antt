-- What is answered, by the rule and by where the angle lies; and that it is finite.
use mathlib.Core.Path.{◌≡◌, sym, subst}
use mathlib.Core.Bool.{true, false}
use lib.Ieee.{Float, lt, le}
use Rattle.quantity.specs.Rules.{Outcome, refused, given}
use Rattle.quantity.proofs.Refusing.{stops, passes}
use Rattle.floats.specs.Arithmetic.{float_of, decimal, within}
use Rattle.floats.proofs.Bounded.{AtMost, is_finite}
use Rattle.start_of_roll.specs.Correction.{in_front, beside, behind, Correction, beside_at, behind_at, angle_rules, correction_at_angle, IsFinite}
use Rattle.start_of_roll.proofs.Sizes.{beside_at_most, behind_at_most}

module _ (θ : Float) where
  -- the two parts of the contract
  abbrev pub Promised : Outcome Correction → Type 0
  Promised answer = (answer ≡ correction_at_angle θ) × IsFinite answer

  pub outside : within (float_of 0) (float_of 180) θ ≡ false → Promised (refused 22)
  outside h = (rw (← stops 0 (angle_rules θ) (rw h)), tt)

  module _ (h : within (float_of 0) (float_of 180) θ ≡ true) where
    pub ahead : lt θ (float_of 90) ≡ true → Promised (given in_front)
    ahead f = (rw (← passes (angle_rules θ) (rw h, tt), f), tt)

    pub at_side : {x : Float} → lt θ (float_of 90) ≡ false → le θ (decimal 1484 1) ≡ true → x ≡ beside_at θ → Promised (given (beside x))
    at_side {x} f s e = (rw (← passes (angle_rules θ) (rw h, tt), f, s, e), is_finite 5865280 x (subst (AtMost 5865280) (sym e) (beside_at_most θ h)))

    pub at_back : {x : Float} → lt θ (float_of 90) ≡ false → le θ (decimal 1484 1) ≡ false → x ≡ behind_at θ → Promised (given (behind x))
    at_back {x} f s e = (rw (← passes (angle_rules θ) (rw h, tt), f, s, e), is_finite 5865280 x (subst (AtMost 5865280) (sym e) (behind_at_most θ h)))
