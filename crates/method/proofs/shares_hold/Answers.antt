-- `method::shares_hold` meets its contract: the condition on each class.
use borrow.Author.Rules.{rules}
use mathlib.Core.Path.{refl, ◌∙◌}
use Rattle.std.proofs.Common.{tests}
use Rattle.std.proofs.lemmas.Iterator.{YieldsList-from_range}
use Rattle.std.proofs.lemmas.Iterator.Search.{all_from_yields_List}
use Rattle.method.specs.Method.{class_count, share_holds}
use Rattle.method.proofs.Shares.{shares_listed}
use Rattle.method.proofs.shares_hold.Goals as goal

pub returns : goal.returns
returns c =
    let a = c.args in
    all_from_yields_List (λ k. share_holds a.all (class_count a.day k)) _ _ _ c.all.ensures.ran (YieldsList-from_range 0 16 16 refl refl) (λ x b q k. search (rules, tests))
    ∙ shares_listed a.all (class_count a.day) 16
