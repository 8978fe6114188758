-- What the loop of `little_endian::read_numbers` keeps: the numbers before i are filled.
use mathlib.Core.Path.{◌≡◌}
use lib.ListN.{take}
use Rattle.little_endian.specs.Bytes.{numbers_at}
use Rattle.little_endian.proofs.read_numbers.Given as goal

abbrev pub invariant-loop-i : goal.invariant-loop-i
invariant-loop-i l = take l.i l.numbers ≡ numbers_at l.bytes l.at l.step l.i
