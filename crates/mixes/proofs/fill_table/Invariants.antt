-- What the loop of `mixes::fill_table` keeps.
use Rattle.ledger.specs.Book.{both_periods}
use Rattle.mixes.proofs.Table.{TableFrom}
use Rattle.mixes.proofs.fill_table.Given as goal

abbrev pub invariant-loop-class : goal.invariant-loop-class
invariant-loop-class l = TableFrom l.all (both_periods l.daytime l.night) l.table l.size l.class
