-- `mixes::fill_table` meets its contract: the rows of the classes from one on, the last one first.
use Rattle.ledger.specs.Book.{both_periods}
use Rattle.ledger.proofs.Books.{both_length}
use Rattle.mixes.proofs.Table.{table_start, table_fits, table_more}
use Rattle.mixes.proofs.fill_table.Goals as goal

pub loop-class-init : goal.loop-class-init
loop-class-init c =
    let l = both_length c.args.daytime.now c.args.night.now c.requires.0.same in
    rw (← l) (table_start _ (both_periods c.args.daytime.now c.args.night.now) _ _ (rw l c.requires.0.few) (rw l c.requires.1))

pub put_class-requires : goal.put_class-requires
put_class-requires c =
    (c.fit_range-range.ensures.ordered, table_fits c.loop-class.invariant c.loop-class-test.true c.begin_row.ensures)

pub loop-class-preserved : goal.loop-class-preserved
loop-class-preserved c =
    let size = c.requires.2 in
    table_more c.loop-class.invariant size c.loop-class-test.true c.begin_row.ensures
    (rw c.flights_of.ensures.0 at c.fit_range-range.ensures)
    c.put_class.ensures
