-- `level::level_of_leading` meets its contract: ten leading digits show the level of the whole number, and the offset is taken off.
use mathlib.Core.Path.{ap, sym, ◌∙◌}
use lib.Dec.{lit<}
use Rattle.level.specs.Level.{reading_at}
use Rattle.level.proofs.Answer.{offset_taken, below_taken}
use Rattle.level.proofs.Digits.{digits_below, digits_level}
use Rattle.level.proofs.level_of_leading.Goals as goal

pub returns-then-digits-lt-UNIT : goal.returns-then-digits-lt-UNIT
returns-then-digits-lt-UNIT c = λ n l. ap reading_at (below_taken _ 1 n (lit< tt) (sym (digits_below c.if-digits-lt-UNIT.true (c.ten_digits-digits.ensures.same n l))))

pub returns : goal.returns
returns c = λ n l.
    c.reading_at.ensures
    ∙ ap reading_at (offset_taken _ 1 n (lit< tt) _ (sym (digits_level c.place_of.ensures (c.ten_digits-digits.ensures.same n l))))
