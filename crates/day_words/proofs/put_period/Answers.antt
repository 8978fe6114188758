-- `day_words::put_period` meets its contract: the flights of the book, the accepted events, the cells, and the lowest and the highest energy, one behind the other.
use Rattle.runs.proofs.Putting.{then}
use Rattle.day_words.proofs.Putting.{words_of_counts}
use Rattle.day_words.proofs.put_period.Goals as goal

pub returns-clause-put : goal.returns-clause-put
returns-clause-put c =
    then (rw words_of_counts at c.put_each-accepted.ensures.put)
    (then (rw words_of_counts at c.put_each-cells.ensures.put)
    (then c.put_each-lowest.ensures.put (then c.put-highest.ensures c.put.ensures)))
