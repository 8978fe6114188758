-- What reading a record answers at each place: the record inside the run, 13 behind it.
use Prim.Native.Nat.{ℕ, ◌≤◌, ◌<◌}
use mathlib.Core.Path.{◌≡◌}
use mathlib.Core.List.{List}
use lib.ListN.{length, get_or}
use borrow.Author.Tests.{le-leb, lt-leb}
use Rattle.quantity.specs.Rules.{first_of, given, refused}
use Rattle.quantity.specs.declared.DayAnswer.{DayAnswer}
use Rattle.mean.specs.Records.{record_at, day_reading, blank}

pub record_found : (days : List DayAnswer) (place : ℕ) → place < length days → record_at days place ≡ given (day_reading (get_or days place blank))
unfolding record_at first_of
record_found days place h = rw (lt-leb _ _ h)

pub record_missing : (days : List DayAnswer) (place : ℕ) → length days ≤ place → record_at days place ≡ refused 13
unfolding record_at first_of
record_missing days place h = rw (le-leb _ _ h)
