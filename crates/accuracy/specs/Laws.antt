-- What holds of the day and of the plain tally after every list of calls, beside demand 3 (document 01, 'Day').
use Rattle.std.specs.Prelude.{◌≡◌, Bool, true, ◌&&◌, cond, List, [], ◌∷◌, map, ℕ, ◌+◌, ◌≤◌, ◌<◌, max, leb, ltb, eqb, length, get_or}
use Rattle.std.proofs.Math.Option.{Option, some, none}
use Rattle.quantity.specs.Answers.{highest_reading}
use Rattle.quantity.specs.Rules.{first_of}
use Rattle.quantity.specs.Lists.{Each}
use Rattle.quantity.specs.declared.Bound.{Bound}
use Rattle.clock.specs.Clock.{earliest_start, latest_end}
use Rattle.clock.specs.declared.Rate.{Rate}
use Rattle.event.specs.Window.{highest}
use Rattle.decades.specs.Decades.{energies}
use Rattle.ledger.specs.Day.{Opening, open_rules, opened_settings, opened_day, period_of, energy_in, energy_at_bound, levels_by_class}
use Rattle.ledger.specs.declared.Day.{Day}
use Rattle.accuracy.specs.Tally.{Call, Held, Tally, started, tally_of, same_as, held_at}
use Rattle.accuracy.specs.Terminal.{day_after_calls}

-- for all settings and every book that open, whatever end of the day before, and every list of calls, refused ones included
abbrev pub Always : (Tally → Day → Type 0) → Type 0
Always P =
    (o : Opening) → first_of (open_rules o) ≡ 0 → (calls : List Call)
    → P (tally_of (started o) calls) (day_after_calls (opened_day o) calls)

-- W-202: no call changes the settings that a day was opened with
abbrev pub SettingsKept : Type 0
SettingsKept = (o : Opening) → first_of (open_rules o) ≡ 0 → (calls : List Call) → (day_after_calls (opened_day o) calls).settings ≡ opened_settings o

-- the stretches, the latest first, end by an instant, and each begins where the ones before it have ended: no instant is counted twice
abbrev pub Apart : ℕ → List Held → Type 0
Apart end [] = Unit
Apart end (h ∷ hs) = (h.to ≤ end) × (h.from < h.to) × Apart h.from hs

-- W-205: each of them begins at the earliest start of a window or later, and ends by the latest end of one
abbrev pub WithinReach : Rate → List Held → Type 0
WithinReach rate = Each (λ h. (earliest_start rate ≤ h.from) × (h.to ≤ latest_end rate))

-- how many of the stretches hold an instant
abbrev pub holders : ℕ → List Held → ℕ
holders instant [] = 0
holders instant (h ∷ hs) = cond (leb h.from instant && ltb instant h.to) 1 0 + holders instant hs

-- the sum of e over the stretches of a period
unfoldable pub period_energy : Bool → List Held → ℕ
period_energy p [] = 0
period_energy p (h ∷ hs) = cond (same_as h.daytime p) (energies h.levels) 0 + period_energy p hs

-- the day's counts are the tally's, none passes the book, and the sum of a period, kept modulo 2 ^ 128, is the true sum; so is that at an end of the samples' ranges
-- (W-211)
pub record WithinBook (t : Tally) (day : Day) : Type 0 where
  pub counts : (p : Bool) (class : ℕ) → get_or (period_of day p).accepted class 0 ≡ get_or (t.count p) class 0
  pub booked : (p : Bool) (class : ℕ) → get_or (period_of day p).accepted class 0 ≤ get_or (period_of day p).booked class 0
  pub sums : (p : Bool) → energy_in (period_of day p) ≡ period_energy p t.stretches
  pub ends : (b : Bound) (p : Bool) → energy_at_bound b (period_of day p) ≡ period_energy p (map (held_at b) t.stretches)

-- the larger of two levels, either of which may be none
abbrev pub larger : Option ℕ → Option ℕ → Option ℕ
larger none b = b
larger (some a) none = some a
larger (some a) (some b) = some (max a b)

-- the highest level of the stretches, or none without any
abbrev pub highest_held : List Held → Option ℕ
highest_held [] = none
highest_held (h ∷ hs) = larger (highest_held hs) (some (highest h.levels))

-- the stretches of a class
abbrev pub of_class : ℕ → List Held → List Held
of_class class [] = []
of_class class (h ∷ hs) = cond (eqb h.class class) (h ∷ of_class class hs) (of_class class hs)

-- document 02, W-201: each class has the highest level of the stretches held for it
abbrev pub ByClass : List Held → List (Option ℕ) → Type 0
ByClass hs levels = (class : ℕ) → get_or levels class none ≡ highest_held (of_class class hs)

-- the largest of some levels, none where all are none
abbrev pub largest : List (Option ℕ) → Option ℕ
largest [] = none
largest (l ∷ ls) = larger l (largest ls)

-- the day's highest level is that of the stretches, and so is each class's; the single one is the largest of them, and a class beyond the book has none
pub record Highest (t : Tally) (day : Day) : Type 0 where
  pub single : highest_reading day.highest ≡ highest_held t.stretches
  pub by_class : ByClass t.stretches (levels_by_class day.highest_by_class)
  pub largest_of_all : highest_reading day.highest ≡ largest (levels_by_class day.highest_by_class)
  pub beyond : (class : ℕ) → length (t.book true) ≤ class → get_or (levels_by_class day.highest_by_class) class none ≡ none
