-- `day_words::encode` meets its contract: the two periods and the rest, behind them words that are 0.
use Rattle.std.proofs.Common.{rules}
use Rattle.day_words.proofs.Putting.{put_day}
use Rattle.runs.proofs.Putting.{then}
use Rattle.day_words.proofs.encode.Goals as goal

pub returns : goal.returns
returns c =
    let settings = rw c.settings_words.ensures at c.put-unused.ensures in
    let last = then c.put_each-settings.ensures.put (then settings c.put.ensures) in
    let rest = then c.put-highest.ensures (then c.put-by_class.ensures.put last) in
    put_day c.args.day (then c.put_period-night.ensures.put (then c.put_period-classes.ensures.put rest)) (search rules)
