-- `day_words::decode` meets its contract: each field from its place.
use Rattle.day_words.specs.Words.{day_from}
use Rattle.day_words.proofs.decode.Goals as goal

pub returns : goal.returns
unfolding day_from
returns c = rw (c.settings_at.ensures, c.period_at.ensures, c.period_at-2.ensures, c.read.ensures, c.read_each.ensures, c.none_by_class-highest_by_class.ensures)
