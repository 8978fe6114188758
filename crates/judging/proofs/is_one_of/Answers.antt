-- `is_one_of` compares each part with what came.
use Rattle.std.proofs.Common.{◌∙◌, rules, tests}
use Rattle.std.proofs.lemmas.Iterator.Search.{any_from_yields_List}
use Rattle.std.proofs.lemmas.Iterator.Splits.{YieldsList-from_slice_split}
use Rattle.judging.proofs.Judging.{is_this, is_bar, any_part}
use Rattle.judging.proofs.is_one_of.Goals as goal

pub returns : goal.returns
returns c =
    let came = c.args.came.now in
    let answers = c.args.answers.now in
    any_from_yields_List (is_this came) _ _ _ c.any.ensures.ran
    (YieldsList-from_slice_split _ is_bar answers c.split.ensures.rest c.split.ensures.done c.split.ensures.closure (λ x b q k. search (rules, tests)))
    (λ x b q k. search (rules, tests))
    ∙ any_part came answers
