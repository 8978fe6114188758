-- `start_of_roll::correction_at_angle` meets its contract: by its three tests, whose literals are the numbers of the definition.
use mathlib.Core.Path.{sym, ◌∙◌}
use lib.Ieee.{of_int, of_bits, round}
use Rattle.floats.specs.Arithmetic.{decimal}
use Rattle.start_of_roll.proofs.Answering.{outside, ahead, at_side, at_back}
use Rattle.start_of_roll.proofs.correction_at_angle.Goals as goal

pub returns-then-not-is_within-clause-result_value : goal.returns-then-not-is_within-clause-result_value
unfolding of_int of_bits round
returns-then-not-is_within-clause-result_value c = (outside c.args.angle (sym c.is_within.ensures ∙ c.if-not-is_within.true)).0

pub returns-then-angle-clause-result_value : goal.returns-then-angle-clause-result_value
unfolding of_int of_bits round
returns-then-angle-clause-result_value c = (ahead c.args.angle (sym c.is_within.ensures ∙ c.if-not-is_within.false) c.if-angle.true).0

pub returns-then-angle-2 : goal.returns-then-angle-2
unfolding of_int decimal of_bits round
returns-then-angle-2 c =
    let p = at_side c.args.angle (sym c.is_within.ensures ∙ c.if-not-is_within.false) c.if-angle.false c.if-angle-2.true c.beside_at.ensures in
    record { result_value = p.0; finite = p.1 }

pub returns : goal.returns
unfolding of_int decimal of_bits round
returns c =
    let p = at_back c.args.angle (sym c.is_within.ensures ∙ c.if-not-is_within.false) c.if-angle.false c.if-angle-2.false c.behind_at.ensures in
    record { result_value = p.0; finite = p.1 }
