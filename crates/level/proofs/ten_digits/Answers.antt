-- `level::ten_digits` meets its contract: each turn leaves out one digit, and a number of 64 bits has fewer than twenty.
use borrow.Author.Rules.{rules}
use Rattle.level.proofs.Digits.{shortening_turn}
use Rattle.level.proofs.ten_digits.Goals as goal

pub loop-digits-preserved : goal.loop-digits-preserved
loop-digits-preserved c = shortening_turn c.loop-digits.invariant (search rules)
