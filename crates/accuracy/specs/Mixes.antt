-- Document 02, W-212: the mixes that are counted are those of the days on which the conditions of method two hold.
use Rattle.std.specs.Prelude.{◌≡◌, true, false, ◌↔◌, ℕ, ◌≤◌}
use mathlib.Core.List.{List, Mem}
use Rattle.ledger.specs.Book.{sum_of, both_periods}
use Rattle.ledger.specs.declared.Day.{Day}
use Rattle.method.specs.Method.{method_two_holds, totals_of, class_count}
use Rattle.mixes.specs.Mix.{mixes_of}
use Rattle.accuracy.specs.Tally.{Tally}
use Rattle.accuracy.specs.Laws.{Always}

-- the accepted events of each class, by day and night together
abbrev pub mix_of : Tally → List ℕ
mix_of t = both_periods (t.count true) (t.count false)

-- where an event is accepted: if the conditions of method two hold on the day, and only then, its events by class are one of the mixes of so many measured flights on
-- its book
abbrev pub IsMixByMethodTwo : Tally → Day → Type 0
IsMixByMethodTwo t day =
    1 ≤ sum_of (mix_of t)
    → Mem (mix_of t) (mixes_of (t.book true) (t.book false) (sum_of (mix_of t)))
    ↔ (method_two_holds (totals_of day) (class_count day) ≡ true)

-- after every list of calls
abbrev pub MixLaw : Type 0
MixLaw = Always IsMixByMethodTwo
