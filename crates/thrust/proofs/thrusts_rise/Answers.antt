-- `thrust::thrusts_rise` meets its contract: each thrust is below the next one, or some thrust is not.
use borrow.Author.Rules.{rules}
use lib.Ieee.{lt}
use Rattle.std.proofs.lemmas.List.Sorted.{answers_always}
use Rattle.thrust.specs.declared.Row.{Row}
use Rattle.thrust.proofs.Walking.{every_next}
use Rattle.thrust.proofs.thrusts_rise.Goals as goal

pub returns : goal.returns
returns c =
    every_next c.args.rows.now c.is_sorted_by.result
    (c.is_sorted_by.ensures.cases (λ (x y : Row). lt x.thrust y.thrust) (answers_always _ _ _ (λ f a r g h. search rules)))
