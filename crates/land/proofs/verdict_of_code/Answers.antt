-- `land::verdict_of_code` meets its contract: the class is looked up first.
use mathlib.Core.Path.{◌∙◌}
use Rattle.std.proofs.lemmas.Result.{err_from_is_err_and}
use Rattle.quantity.specs.Answers.{reading, highest_reading}
use Rattle.land.specs.Classes.{class_of}
use Rattle.land.proofs.Assessing.{looked_up}
use Rattle.land.proofs.verdict_of_code.Goals as goal

pub returns-in_err-land_class : goal.returns-in_err-land_class
returns-in_err-land_class c =
    let a = c.args in
    let p = err_from_is_err_and c.from_residual.result c.from_residual.ensures.1 in
    rw (p.1, p.2) (looked_up (class_of a.letter a.digit) c.in_err-land_class.ensures (reading a.yearly) a.sensitive (highest_reading a.highest))

pub returns : goal.returns
returns c =
    let a = c.args in
    c.assess.ensures ∙ looked_up (class_of a.letter a.digit) c.in_ok-land_class.ensures (reading a.yearly) a.sensitive (highest_reading a.highest)
