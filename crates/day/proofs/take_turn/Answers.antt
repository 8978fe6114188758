-- `take_turn` makes a step on what was held.
use Rattle.std.proofs.Common.{◌≡◌, ◌+◌, ◌-◌, ◌≤◌, ◌∙◌, ap, arith}
use Rattle.steps.specs.Machine.{Next}
use Rattle.steps.proofs.Ending.{longest_law}
use Rattle.day.proofs.Turning.{within}
use Rattle.day.proofs.take_turn.Given.{Over}
use Rattle.day.proofs.take_turn.Goals.{After-step_with-step}
use Rattle.day.proofs.take_turn.Goals as goal

-- the step uses up no more than is held
inside : (g : Over) (c : After-step_with-step g) → c.in_ok-rest.rest.at + c.step_with-step.result.used ≤ c.in_ok-rest.rest.end
inside g c =
    within c.args.last.reader c.hold_enough.new.held c.in_ok-rest.rest.at c.in_ok-rest.rest.end c.in_ok-rest.rest.ended _ _ c.in_ok-rest.ensures.size
    (ap (λ (n : Next). n.used) c.step_with-step.ensures.result_value)

pub overflow_add-result : goal.overflow_add-result
overflow_add-result g c = omega (arith, inside g (goal.at.overflow_add-result g c).After-step_with-step, c.in_ok-rest.ensures.size)

pub returns-clause-turned : goal.returns-clause-turned
returns-clause-turned g c =
    let e = c.in_ok-rest.ensures in
    let used : c.in_ok-rest.rest.at + c.step_with-step.result.used - c.in_ok-rest.rest.at ≡ c.step_with-step.result.used = omega arith in
    record {
      whole = e.whole;
      kept = e.held_after;
      inside = e.size;
      step = rw (used, ← e.ended) c.step_with-step.ensures.result_value;
      enough = λ f. omega (arith, e.enough (e.ended ∙ f), e.whole, c.longest_need-need.ensures, longest_law c.args.last.reader, c.requires);
      used = (omega arith, inside g (goal.at.returns-clause-turned g c).After-step_with-step);
    }
