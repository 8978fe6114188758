-- `land::verdict` meets its contract: the class is looked up first.
use mathlib.Core.Path.{◌∙◌}
use Rattle.std.proofs.lemmas.Result.{err_from_is_err_and}
use Rattle.quantity.specs.Answers.{reading, highest_reading}
use Rattle.land.proofs.Assessing.{looked_up}
use Rattle.land.proofs.verdict.Goals as goal

pub returns-in_err-try_from : goal.returns-in_err-try_from
returns-in_err-try_from c =
    let a = c.args in
    let p = err_from_is_err_and c.from_residual.result c.from_residual.ensures.1 in
    rw (p.1, p.2) (looked_up a.class c.in_err-try_from.ensures (reading a.yearly) a.sensitive (highest_reading a.highest))

pub returns : goal.returns
returns c =
    let a = c.args in
    c.assess.ensures ∙ looked_up a.class c.in_ok-try_from.ensures (reading a.yearly) a.sensitive (highest_reading a.highest)
