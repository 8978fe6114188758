-- `mean::year_mean` meets its contract: the levels are those of the records.
use Rattle.std.proofs.Common.{rules}
use Rattle.quantity.specs.Answers.{reading}
use Rattle.quantity.specs.declared.DayAnswer.{DayAnswer}
use Rattle.mean.proofs.Totals.{record_levels}
use Rattle.mean.proofs.year_mean.Goals as goal

pub returns : goal.returns
returns c = rw (← record_levels c.args.days.now) (c.mean_of.ensures (λ (day : DayAnswer). reading day.level) (λ day answer given. search rules))
