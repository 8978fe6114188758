-- What the loop of `c_interface::class_numbers` keeps: the numbers of the classes passed so far are written.
use Rattle.ledger.specs.Day.{levels_by_class}
use Rattle.runs.proofs.Filling.{Filling}
use Rattle.c_interface.specs.Numbers.{class_numbers}
use Rattle.c_interface.proofs.class_numbers.Given as goal

abbrev pub invariant-loop-i : goal.invariant-loop-i
invariant-loop-i l = Filling (class_numbers (levels_by_class l.levels)) l.number-items l.i
