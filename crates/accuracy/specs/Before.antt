-- Document 02, W-202: at rate 10 with ticks 216000 and 791999 every answer is the one before that request. Here stands what a call answers by, with the
-- numbers of document 01, of W-205 for rule 2 and of W-211 for rule 23, written out: such a day is opened, checks its offers, forms its levels and closes by
-- these numbers alone.
use Rattle.std.specs.Prelude.{◌≡◌, Bool, ◌&&◌, ◌||◌, not, List, ℕ, ◌+◌, ◌-◌, ◌*◌, leb, ltb, length}
use Rattle.quantity.specs.Instants.{midnight, instant_at}
use Rattle.quantity.specs.Limits.{highest_sample}
use Rattle.quantity.specs.Rules.{first_of, refused, given, outcome, follow}
use Rattle.level.specs.Level.{level_of}
use Rattle.clock.specs.declared.Settings.{Settings}
use Rattle.event.specs.Window.{any_above, too_faint}
use Rattle.event.specs.Stretch.{touches_edge}
use Rattle.event.specs.Event.{event_of}
use Rattle.event.specs.declared.Event.{Event}
use Rattle.exposure.specs.Exposure.{energy_of, exposure_of}
use Rattle.ledger.specs.Book.{book_rules}
use Rattle.ledger.specs.Day.{fresh_day, no_day, opened_settings, opened}
use Rattle.ledger.specs.Before.{opening_before}
use Rattle.admission.specs.Checks.{Offering, offer_rules, offer_checks, in_daytime}
use Rattle.admission.specs.declared.Recording.{Recording}
use Rattle.method.specs.Method.{all_of}
use Rattle.method.specs.declared.Totals.{Totals}
use Rattle.closing.specs.Formula.{formula_one, formula_two}

-- the settings of document 01, whatever the book
abbrev pub settings_before : (daytime night : List ℕ) → Settings
settings_before daytime night = opened_settings (opening_before daytime night)

module _ (daytime night : List ℕ) where
  abbrev terminal : Settings
  terminal = settings_before daytime night

  -- opening: 10 alone refuses it, and else the fresh day of the book is given
  abbrev pub OpeningBefore : Type 0
  OpeningBefore =
      opened (opening_before daytime night)
      ≡ follow (outcome (first_of (book_rules daytime night)) (fresh_day terminal (instant_at midnight) daytime night))
      (λ n. record { day = no_day; answer = refused n })
      (λ day. record { day = day; answer = given tt })

  -- offers: 3 to 6000 samples, a window from -6000 to 870000 with its peak from 0 to 863999, daytime from tick 216000 to 791999, and LAE over 10
  abbrev pub RulesBefore : Type 0
  RulesBefore =
      (o : Offering) (unbooked : Bool) (end : ℕ) (used : Bool)
      → let r = o.recording in
      let s = o.samples in
      let v = event_of s in
      let n = length s in
      let start = r.start.0 in
      let peak = start + v.peak in
      offer_checks terminal.rate o unbooked end used
      ≡ offer_rules
      (ltb n 3 || ltb 6000 n)
      ((ltb start (midnight - 6000) || ltb (midnight + 870000) (start + n)) || not (leb midnight peak && ltb peak (midnight + 864000)))
      unbooked
      (any_above highest_sample s || ltb highest_sample r.background.0)
      (ltb 300 r.tolerance.0)
      (r.wet || ltb 100 r.wind)
      (too_faint r.background.0 v.lmax.0)
      (touches_edge v.stretch.first v.stretch.end n)
      (ltb (start + v.stretch.first) end)
      used

  abbrev pub DaytimeBefore : Type 0
  DaytimeBefore =
      (r : Recording) (v : Event)
      → let t = r.start.0 + v.peak in
      in_daytime terminal r v ≡ (leb (midnight + 216000) t && leb t (midnight + 791999))

  abbrev pub ExposureBefore : Type 0
  ExposureBefore = (s : List ℕ) → exposure_of terminal.rate s ≡ level_of 0 10 (energy_of s)

  -- closings: Ldn over 864000, by method two over 10 N'
  abbrev pub FormulasBefore : Type 0
  FormulasBefore =
      (t : Totals)
      → let weight = t.daytime.flights + 10 * t.night.flights in
      (formula_one terminal.rate ≡ record { daytime = 1; night = 10; divisor = 864000; offset = 0 })
      × (formula_two terminal.rate t ≡ record { daytime = weight; night = weight; divisor = 10 * (all_of t).events; offset = 4940 })

-- all of them, for every book
abbrev pub AsBefore : Type 0
AsBefore =
    (daytime night : List ℕ)
    → OpeningBefore daytime night
    × RulesBefore daytime night
    × DaytimeBefore daytime night
    × ExposureBefore daytime night
    × FormulasBefore daytime night
