-- `level::level_over` meets its contract: the sum is multiplied first, the divisor divided out, and the offset taken off last.
use mathlib.Core.Path.{ap, ◌∙◌}
use Rattle.level.specs.Level.{reading_at, height_of}
use Rattle.level.proofs.Answer.{divided}
use Rattle.level.proofs.level_over.Goals as goal

pub returns : goal.returns
returns c = c.level_of_leading.ensures _ c.leading_quotient-quotient.ensures
    ∙ ap reading_at (divided _ _ _ c.requires.0 ∙ ap (height_of _ _) c.deepened.ensures)
