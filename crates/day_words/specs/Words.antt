-- A day as 320 words of 32 bits: for each period the flights of the book and the accepted events by class, the limbs of its 24 cells, and those of its lowest
-- and of its highest energy; then the number of classes, the end, whether there is a highest level, and that level; for each class the same of its own highest
-- level; the settings; then words that are 0.
use Rattle.std.specs.Prelude.{cond, List, [], ◌∷◌, ◌++◌, map, ℕ, zero, suc, ◌+◌, ◌%◌, ◌<◌, ◌≡◌, eqb, length, take, drop, get_or, replicate, Option, Some, None}
use Rattle.quantity.specs.Instants.{instant_at}
use Rattle.quantity.specs.Lists.{Each}
use Rattle.quantity.specs.declared.Level.{Level}
use Rattle.clock.specs.Clock.{hours, tick_at}
use Rattle.clock.specs.declared.Rate.{Rate}
use Rattle.clock.specs.declared.Rate.TheVariants.{Ten, Twenty, Forty}
use Rattle.clock.specs.declared.Settings.{Settings}
use Rattle.ledger.specs.Day.{Opening, opened}
use Rattle.admission.specs.Checks.{Offering}
use Rattle.offering.specs.Offer.{offered}
use Rattle.ledger.specs.declared.Cell.{Cell}
use Rattle.ledger.specs.declared.Period.{Period}
use Rattle.ledger.specs.declared.Day.{Day}

abbrev pub word_count : ℕ
word_count = 320

-- the words of each entry of a list, one behind the other
abbrev pub words_of_each : {A : Type 0} → (A → List ℕ) → List A → List ℕ
words_of_each words [] = []
words_of_each words (x ∷ xs) = words x ++ words_of_each words xs

-- what is put into words is read from them again, wherever they stand
abbrev pub ReadsAgain : {A : Type 0} → (A → List ℕ) → (List ℕ → ℕ → A) → (A → Type 0) → Type 0
ReadsAgain {A} to_words from_words Fits = (x : A) → Fits x → (words : List ℕ) (at : ℕ) (rest : List ℕ) → drop at words ≡ to_words x ++ rest → from_words words at ≡ x

-- a count: a word
abbrev pub count_words : ℕ → List ℕ
count_words n = n ∷ []

-- W-208: the energy of each clock hour: 4 words an hour
abbrev pub cell_words : List Cell → List ℕ
cell_words = words_of_each (λ c. c.energy)

-- a period: 136 words, the last eight by W-211
abbrev pub period_words : Period → List ℕ
period_words p = p.booked ++ (p.accepted ++ (cell_words p.cells ++ (p.lowest ++ p.highest)))

-- the highest level: 1 and the level, or 0 and 0
abbrev pub highest_words : Option Level → List ℕ
highest_words (Some l) = 1 ∷ l.0 ∷ []
highest_words None = 0 ∷ 0 ∷ []

-- the rest of a day: 4 words
abbrev pub rest_words : Day → List ℕ
rest_words d = d.classes ∷ d.end.0 ∷ highest_words d.highest

-- the highest level of each class: 2 words a class
abbrev pub class_words : List (Option Level) → List ℕ
class_words = words_of_each highest_words

-- W-202: the settings: 3 words, of which the first tells the rate
abbrev pub rate_word : Rate → ℕ
rate_word Ten = 0
rate_word Twenty = 1
rate_word Forty = 2

abbrev pub settings_words : Settings → List ℕ
settings_words c = rate_word c.rate ∷ c.first.0 ∷ c.last.0 ∷ []

-- the words of a day: 311 that are used, and 9 that are 0
unfoldable pub day_words : Day → List ℕ
day_words d =
    period_words d.daytime
    ++ (period_words d.night
    ++ (rest_words d ++ (class_words d.highest_by_class ++ (settings_words d.settings ++ replicate 9 0))))

-- words from a place on; counts from a place on, each word modulo 2^16
abbrev pub words_at : (words : List ℕ) (at count : ℕ) → List ℕ
words_at words at count = take count (drop at words)

abbrev pub narrowed : List ℕ → List ℕ
narrowed = map (λ w. w % 65536)

abbrev pub counts_at : (words : List ℕ) (at count : ℕ) → List ℕ
counts_at words at count = narrowed (words_at words at count)

-- so many entries from a place on, each of the same number of words, and read where it begins
unfoldable pub read_each : {A : Type 0} → (ℕ → A) → (width at count : ℕ) → List A
read_each read width at zero = []
read_each read width at (suc k) = read at ∷ read_each read width (at + width) k

-- the day that any 320 words stand for
abbrev pub count_from : List ℕ → ℕ → ℕ
count_from words at = get_or words at 0 % 65536

abbrev pub cell_from : List ℕ → ℕ → Cell
cell_from words at = record { energy = words_at words at 4 }

abbrev pub cells_from : List ℕ → (at count : ℕ) → List Cell
cells_from words = read_each (cell_from words) 4

abbrev pub period_from : List ℕ → ℕ → Period
period_from words at =
    record {
      booked = counts_at words at 16;
      accepted = counts_at words (at + 16) 16;
      cells = cells_from words (at + 32) 24;
      lowest = words_at words (at + 128) 4;
      highest = words_at words (at + 132) 4;
    }

abbrev pub highest_marked : (mark level : ℕ) → Option Level
highest_marked mark level = cond (eqb mark 0) None (Some (record { 0 = level }))

abbrev pub class_from : List ℕ → ℕ → Option Level
class_from words at = highest_marked (get_or words at 0) (get_or words (at + 1) 0)

abbrev pub classes_from : List ℕ → (at count : ℕ) → List (Option Level)
classes_from words = read_each (class_from words) 2

-- a word that names no rate stands for the fastest
abbrev pub rate_from : ℕ → Rate
rate_from n = cond (eqb n 0) Ten (cond (eqb n 1) Twenty Forty)

abbrev pub settings_from : List ℕ → ℕ → Settings
settings_from words at =
    record { rate = rate_from (get_or words at 0); first = tick_at (get_or words (at + 1) 0); last = tick_at (get_or words (at + 2) 0) }

unfoldable pub day_from : List ℕ → Day
day_from words =
    record {
      settings = settings_from words 308;
      classes = get_or words 272 0 % 256;
      daytime = period_from words 0;
      night = period_from words 136;
      end = instant_at (get_or words 273 0);
      highest = highest_marked (get_or words 274 0) (get_or words 275 0);
      highest_by_class = classes_from words 276 16;
    }

-- a day whose lists have the places of their arrays, whose classes fit into 8 bits and whose counts into 16, as every day has that a program holds
abbrev pub NarrowCount : ℕ → Type 0
NarrowCount n = n < 65536

abbrev pub Narrow : List ℕ → Type 0
Narrow counts = (i : ℕ) → NarrowCount (get_or counts i 0)

abbrev pub FourLimbs : Cell → Type 0
FourLimbs c = length c.energy ≡ 4

abbrev pub AnyLevel : Option Level → Type 0
AnyLevel h = Unit {0}

pub record PeriodFits (p : Period) : Type 0 where
  pub booked : length p.booked ≡ 16
  pub accepted : length p.accepted ≡ 16
  pub cells : length p.cells ≡ hours
  pub limbs : Each FourLimbs p.cells
  pub lowest : length p.lowest ≡ 4
  pub highest : length p.highest ≡ 4
  pub booked_narrow : Narrow p.booked
  pub accepted_narrow : Narrow p.accepted

pub record DayFits (d : Day) : Type 0 where
  pub classes : d.classes < 256
  pub daytime : PeriodFits d.daytime
  pub night : PeriodFits d.night
  pub by_class : length d.highest_by_class ≡ 16

-- the words of a day stand for that very day
abbrev pub InverseLaw : Type 0
InverseLaw = (d : Day) → DayFits d → day_from (day_words d) ≡ d

-- the fresh day, the day of no class, and the day after an offer all fit, so the inverse law holds of every day that calls reach
abbrev pub OpenedLaw : Type 0
OpenedLaw = (o : Opening) → DayFits (opened o).day

abbrev pub OfferedLaw : Type 0
OfferedLaw = (d : Day) (o : Offering) → DayFits d → DayFits (offered d o).day
