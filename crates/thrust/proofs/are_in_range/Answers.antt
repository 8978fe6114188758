-- `thrust::are_in_range` meets its contract.
use borrow.Author.Rules.{rules}
use mathlib.Core.Path.{◌∙◌}
use Rattle.std.proofs.Common.{tests}
use Rattle.std.proofs.lemmas.Iterator.Adapters.{YieldsList-from_rev_slice}
use Rattle.std.proofs.lemmas.Iterator.Search.{all_from_yields_List}
use Rattle.thrust.specs.Rows.{in_range}
use Rattle.thrust.proofs.Walking.{every_row_back}
use Rattle.thrust.proofs.are_in_range.Goals as goal

pub returns : goal.returns
returns c =
    all_from_yields_List in_range _ _ _ c.all.ensures.ran (YieldsList-from_rev_slice c.args.rows.now (cc)) (λ x b q k. search (rules, tests))
    ∙ every_row_back in_range c.args.rows.now
