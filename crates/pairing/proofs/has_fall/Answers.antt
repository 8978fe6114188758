-- `pairing::has_fall` meets its contract: the closure says of each two neighbours whether the later one in the list is not earlier.
use borrow.Author.Rules.{rules}
use mathlib.Core.Bool.{not}
use lib.Dec.{ltb}
use Rattle.std.proofs.lemmas.List.Sorted.{answers_always}
use Rattle.quantity.specs.Instants.{ticks_of}
use Rattle.pairing.proofs.Rising.{sorted}
use Rattle.pairing.proofs.has_fall.Goals as goal

pub returns : goal.returns
returns c = sorted c.args.times.now c.is_sorted_by.result (c.is_sorted_by.ensures.cases (λ x y. not (ltb (ticks_of y) (ticks_of x))) (answers_always _ _ _ (λ f a r g h. search rules)))
