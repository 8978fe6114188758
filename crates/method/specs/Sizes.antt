-- The code's own machinery, not the papers': how large the numbers of a day can be, whatever its bits.
use Rattle.std.specs.Prelude.{ℕ, ◌*◌, ◌≤◌}
use Rattle.ledger.specs.Book.{most_classes}
use Rattle.method.specs.declared.Count.{Count}
use Rattle.method.specs.declared.Totals.{Totals}

-- the most that a period can count: the largest number of 16 bits in each class
abbrev pub most_of_period : ℕ
most_of_period = most_classes * 65535

-- neither number is above a bound
pub record Few (most : ℕ) (n : Count) : Type 0 where
  pub flights : n.flights ≤ most
  pub events : n.events ≤ most

pub record FewIn (t : Totals) : Type 0 where
  pub daytime : Few most_of_period t.daytime
  pub night : Few most_of_period t.night
