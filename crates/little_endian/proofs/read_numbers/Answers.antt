-- `little_endian::read_numbers` meets its contract: one number more is filled.
use mathlib.Core.Path.{sym}
use native.Mathlib.Omega.{arith}
use Rattle.std.proofs.lemmas.List.{take_more_set}
use Rattle.little_endian.proofs.Numbers.{numbers_more}
use Rattle.little_endian.proofs.read_numbers.Goals as goal

pub loop-i-preserved : goal.loop-i-preserved
loop-i-preserved c =
    rw (take_more_set c.loop-i.numbers c.loop-i.i _ (omega (arith, c.loop-i.auto.numbers)), c.loop-i.invariant, c.two_bytes.ensures) (sym (numbers_more _ _ _ c.loop-i.i))
