-- `c_interface::class_numbers` meets its contract: the numbers of the classes passed so far are written.
use mathlib.Core.Path.{sym, ◌∙◌}
use mathlib.Core.Option.{none}
use Rattle.runs.proofs.Filling.{filled_more}
use Rattle.c_interface.specs.Numbers.{highest_number}
use Rattle.c_interface.proofs.Classes.{length_numbers, number_at}
use borrow.Author.Rules.{rules}
use Rattle.c_interface.proofs.class_numbers.Goals as goal

pub loop-i-preserved : goal.loop-i-preserved
loop-i-preserved c = let levels = c.args.levels in
    filled_more c.loop-i.invariant (highest_number none)
    (rw (length_numbers levels (search rules)) c.loop-i-test.true)
    (c.highest_number.ensures ∙ sym (number_at levels c.loop-i.i))
