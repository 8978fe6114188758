-- Document 02, W-211: 'Every day with that book, rate, stretches, periods and method whose samples lie in their ranges has its Ldn between the two, by either
-- method; "below scale" counts as lowest of all.' Such a day is any lists of samples, one for each stretch that the plain tally holds.
use Rattle.std.specs.Prelude.{◌≡◌, true, false, List, [], ◌∷◌, map, ℕ}
use Rattle.quantity.specs.Answers.{Reading}
use Rattle.quantity.specs.Lists.{Each}
use Rattle.quantity.specs.Rules.{given}
use Rattle.quantity.specs.Tolerance.{Within}
use Rattle.quantity.specs.declared.Bound.{Bound}
use Rattle.level.specs.Level.{NoHigher}
use Rattle.method.specs.Method.{method_by}
use Rattle.closing.specs.Formula.{formula_by, level_by}
use Rattle.closing.specs.Close.{Closing, closed}
use Rattle.accuracy.specs.Tally.{Held, Tally, tally_counts, with_levels, held_at}
use Rattle.accuracy.specs.Terminal.{CalledDay, day_of, held_in, rate_in}
use Rattle.accuracy.specs.Laws.{Always, period_energy}
use Rattle.accuracy.specs.Demand.{ldn_at}

-- as many samples as were recorded, each in the range of the one in its place: from c - u, not under 0, to c + u, not over 14000
abbrev pub InRange : (u : ℕ) (recorded samples : List ℕ) → Type 0
InRange u [] [] = Unit
InRange u [] (s ∷ ss) = ⊥
InRange u (c ∷ cs) [] = ⊥
InRange u (c ∷ cs) (s ∷ ss) = Within u c s × InRange u cs ss

-- such a list for each stretch, by the tolerance of its own meter
abbrev pub InRanges : List Held → List (List ℕ) → Type 0
InRanges [] [] = Unit
InRanges [] (s ∷ ss) = ⊥
InRanges (h ∷ hs) [] = ⊥
InRanges (h ∷ hs) (s ∷ ss) = InRange h.tolerance h.levels s × InRanges hs ss

-- the stretches with these samples in the place of the recorded ones
abbrev pub with_samples : List Held → List (List ℕ) → List Held
with_samples [] ss = []
with_samples (h ∷ hs) [] = []
with_samples (h ∷ hs) (s ∷ ss) = with_levels h s ∷ with_samples hs ss

-- Ldn of stretches, by the book, the rate and the method of a tally
abbrev pub ldn_of : Tally → List Held → Reading
ldn_of t hs =
    let c = tally_counts t in
    level_by (formula_by t.settings.rate (method_by c) c.totals) (period_energy true hs) (period_energy false hs)

-- a level lies between the lowest and the highest Ldn of a closing
abbrev pub Between : Closing → Reading → Type 0
Between x ldn = NoHigher x.lowest_ldn ldn × NoHigher ldn x.highest_ldn

-- What is said of a closing, by the tally of the calls before it. The lowest and the highest Ldn are those of the stretches with each sample at that end of its
-- range; every day with other samples in the ranges has its Ldn between them, and so has the day as it was recorded. Beyond the request, both ends are such
-- days themselves, so that no narrower bounds hold of all of them. Without tolerances all three are the same.
pub record Spread (t : Tally) (x : Closing) : Type 0 where
  pub ends : (b : Bound) → ldn_at b x ≡ ldn_of t (map (held_at b) t.stretches)
  pub between : (samples : List (List ℕ)) → InRanges t.stretches samples → Between x (ldn_of t (with_samples t.stretches samples))
  pub recorded : Between x x.ldn
  pub reached : (b : Bound) → InRanges t.stretches (map (λ h. (held_at b h).levels) t.stretches)
  pub exact : Each (λ h. h.tolerance ≡ 0) t.stretches → (b : Bound) → ldn_at b x ≡ x.ldn

-- for all settings and every book that open, every list of calls, refused ones included, and every closing after it that is not refused
abbrev pub SpreadLaw : Type 0
SpreadLaw = Always (λ t day. (before after : ℕ) (x : Closing) → closed day before after ≡ given x → Spread t x)

-- The same of days that calls reach: a day with the book, the rate and the method of another, whose stretches are those of the other, in the same periods and with
-- samples in the ranges of the other's.
abbrev pub SameButSamples : (hs others : List Held) → Type 0
SameButSamples [] [] = Unit
SameButSamples [] (k ∷ ks) = ⊥
SameButSamples (h ∷ hs) [] = ⊥
SameButSamples (h ∷ hs) (k ∷ ks) =
    (k.from ≡ h.from)
    × (k.to ≡ h.to)
    × (k.daytime ≡ h.daytime)
    × InRange h.tolerance h.levels k.levels
    × SameButSamples hs ks

pub record DayInRange (d other : CalledDay) : Type 0 where
  pub daytime : other.opening.daytime ≡ d.opening.daytime
  pub night : other.opening.night ≡ d.opening.night
  pub rate : rate_in other ≡ rate_in d
  pub stretches : SameButSamples (held_in d) (held_in other)

abbrev pub OtherDayLaw : Type 0
OtherDayLaw =
    (d other : CalledDay) → DayInRange d other → (before after other_before other_after : ℕ) (x y : Closing)
    → closed (day_of d) before after ≡ given x
    → closed (day_of other) other_before other_after ≡ given y
    → y.method ≡ x.method
    → Between x y.ldn
