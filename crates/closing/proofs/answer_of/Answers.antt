-- `closing::answer_of` meets its contract: the drift, then the method that the counts choose.
use mathlib.Core.Path.{sym, ap, ◌∙◌}
use Rattle.std.specs.Prelude.{◌≡◌, Err}
use native.Mathlib.Omega.{arith}
use Rattle.method.specs.Method.{method_outcome}
use Rattle.closing.proofs.Answers.{divides, drifted, no_method, by_method}
use Rattle.closing.proofs.answer_of.Goals as goal

pub returns-then-has_drifted : goal.returns-then-has_drifted
returns-then-has_drifted c = let a = c.args in drifted a.day a.before.0 a.after.0 (sym c.has_drifted.ensures ∙ c.if-has_drifted.true)

pub returns-in_err-method : goal.returns-in_err-method
returns-in_err-method c =
    let a = c.args in
    let same : c.from_residual.result ≡ Err c.in_err-method.field-0.0 = grind arith in
    rw same
    (no_method a.day a.before.0 a.after.0 (sym c.has_drifted.ensures ∙ c.if-has_drifted.false)
    (sym c.choose_method-choice.ensures.totals_value.1 ∙ ap method_outcome c.in_err-method.was))

pub level_by-requires : goal.level_by-requires
level_by-requires c = divides c.args.day c.in_ok-method.was c.formula_by-formula.ensures c.choose_method-choice.ensures.totals_value

pub level_by-requires-2 : goal.level_by-requires-2
level_by-requires-2 c = divides c.args.day c.in_ok-method.was c.formula_by-formula.ensures c.choose_method-choice.ensures.totals_value

pub level_by-requires-3 : goal.level_by-requires-3
level_by-requires-3 c = divides c.args.day c.in_ok-method.was c.formula_by-formula.ensures c.choose_method-choice.ensures.totals_value

pub returns : goal.returns
returns c =
    let a = c.args in
    let told = c.choose_method-choice.ensures.totals_value in
    rw (c.level_by.ensures, c.level_by-2.ensures, c.level_by-3.ensures, c.energy_of.ensures, c.energy_of-2.ensures, told.0)
    (by_method a.day a.before.0 a.after.0 (sym c.has_drifted.ensures ∙ c.if-has_drifted.false) (sym told.1 ∙ ap method_outcome c.in_ok-method.was)
    (c.formula_by-formula.ensures ∙ rw told.0))
