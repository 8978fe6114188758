-- The words of a day stand for that very day: each field is read where it was put.
use Rattle.std.specs.Prelude as std
use Rattle.std.specs.Prelude.{Some, None}
use Rattle.quantity.specs.declared.Level.{Level}
use mathlib.Core.Path.{◌≡◌, refl, sym, ap, ap₂, ◌∙◌}
use mathlib.Core.List.{List, [], ◌∷◌, ◌++◌, append_assoc}
use Prim.Native.Nat.{ℕ, suc, ◌+◌, ◌*◌}
use native.Mathlib.Nat.{mod-eq_of_lt}
use native.Mathlib.Omega.{arith}
use lib.ListN.{length, drop, get_or, replicate, length-append}
use lib.Seq.{drop-drop, take_at, drop_at, get_or-drop}
use Rattle.quantity.specs.Lists.{Each}
use Rattle.clock.specs.declared.Rate.{Rate}
use Rattle.clock.specs.declared.Rate.TheVariants.{Ten, Twenty, Forty}
use Rattle.ledger.specs.declared.Cell.{Cell}
use Rattle.ledger.specs.declared.Period.{Period}
use Rattle.ledger.specs.declared.Day.{Day}
use Rattle.day_words.specs.Again.{cell_again, class_again}
use Rattle.day_words.specs.Words.{
  ReadsAgain,
  words_of_each,
  cell_words,
  period_words,
  highest_words,
  rest_words,
  class_words,
  rate_word,
  settings_words,
  day_words,
  words_at,
  narrowed,
  read_each,
  cell_from,
  cells_from,
  period_from,
  highest_marked,
  class_from,
  classes_from,
  rate_from,
  day_from,
  Narrow,
  FourLimbs,
  AnyLevel,
  PeriodFits,
  DayFits,
  InverseLaw,
}

-- numbers stand at a place of some words, with others behind them
abbrev Stands : (words : List ℕ) (at : ℕ) (numbers rest : List ℕ) → Type 0
Stands words at numbers rest = drop at words ≡ numbers ++ rest

module _ (words : List ℕ) (at : ℕ) (xs ys : List ℕ) (s : Stands words at xs ys) where
  read : {k : ℕ} → length xs ≡ k → words_at words at k ≡ xs
  read {k} e = rw s (take_at xs ys k e)

  behind : (place : ℕ) → place ≡ at + length xs → drop place words ≡ ys
  behind place e = rw (e, ← drop-drop (length xs) at words, s) (drop_at xs ys (length xs) refl)

-- counts below 2^16 are read as they are
narrowed_same : (xs : List ℕ) → Narrow xs → narrowed xs ≡ xs
narrowed_same [] h = refl
narrowed_same (x ∷ xs) h = ap₂ ◌∷◌ (mod-eq_of_lt (h 0)) (narrowed_same xs (λ i. h (suc i)))

-- a list whose entries have the same number of words
abbrev Wide : {A : Type 0} → (A → List ℕ) → ℕ → List A → Type 0
Wide f width = Each (λ x. length (f x) ≡ width)

wide : {A : Type 0} (f : A → List ℕ) {width : ℕ} → ((x : A) → length (f x) ≡ width) → (xs : List A) → Wide f width xs
wide f h [] = tt
wide f h (x ∷ xs) = (h x, wide f h xs)

length_words_of_each : {A : Type 0} (f : A → List ℕ) (width : ℕ) (xs : List A) → Wide f width xs → length (words_of_each f xs) ≡ width * length xs
length_words_of_each f width [] e = omega arith
length_words_of_each f width (x ∷ xs) e = rw (length-append, length_words_of_each f width xs e.1, e.0) (omega arith)

-- such a list is read from where it stands, if each entry is
module _ {A : Type 0} (words : List ℕ) (f : A → List ℕ) (width : ℕ) (from : List ℕ → ℕ → A) (Fits : A → Type 0) (again : ReadsAgain f from Fits) where
  entries : (at : ℕ) (xs : List A) (rest : List ℕ) → Each Fits xs → Wide f width xs → Stands words at (words_of_each f xs) rest
      → {count : ℕ} → length xs ≡ count → read_each (from words) width at count ≡ xs
  unfolding read_each
  entries at xs rest h e s n = ap (read_each (from words) width at) (sym n) ∙ go at xs h e s
    where
      go : (at : ℕ) (xs : List A) → Each Fits xs → Wide f width xs → Stands words at (words_of_each f xs) rest → read_each (from words) width at (length xs) ≡ xs
      go at [] h e s = refl
      go at (x ∷ xs) h e s =
          let others = words_of_each f xs ++ rest in
          let first : Stands words at (f x) others = s ∙ append_assoc (f x) (words_of_each f xs) rest in
          ap₂ ◌∷◌ (again x h.0 words at others first) (go (at + width) xs h.1 e.1 (behind words at (f x) others first (at + width) (omega (arith, e.0))))

-- the cells of a period, each of 4 words
pub length_cell_words : (cs : List Cell) → Each FourLimbs cs → length (cell_words cs) ≡ 4 * length cs
length_cell_words = length_words_of_each (λ c. c.energy) 4

cells : (words : List ℕ) (at : ℕ) (cs : List Cell) (rest : List ℕ) → Each FourLimbs cs → Stands words at (cell_words cs) rest
    → {count : ℕ} → length cs ≡ count → cells_from words at count ≡ cs
cells words at cs rest h = entries words (λ c. c.energy) 4 cell_from FourLimbs cell_again at cs rest h h

-- what stands behind the flights of the book of a period, behind its accepted events, behind its cells
abbrev behind_cells : Period → List ℕ → List ℕ
behind_cells p rest = p.lowest ++ (p.highest ++ rest)

abbrev behind_accepted : Period → List ℕ → List ℕ
behind_accepted p rest = cell_words p.cells ++ behind_cells p rest

abbrev behind_booked : Period → List ℕ → List ℕ
behind_booked p rest = p.accepted ++ behind_accepted p rest

-- a period is read from where it stands, and what is behind it stands 136 words on
module _ (words : List ℕ) (at : ℕ) (p : Period) (f : PeriodFits p) (rest : List ℕ) (s : Stands words at (period_words p) rest) where
  booked_first : Stands words at p.booked (behind_booked p rest)
  booked_first = s ∙ simp append_assoc

  accepted_next : Stands words (at + 16) p.accepted (behind_accepted p rest)
  accepted_next = behind words at p.booked (behind_booked p rest) booked_first (at + 16) (omega (arith, f.booked))

  cells_next : Stands words (at + 32) (cell_words p.cells) (behind_cells p rest)
  cells_next = behind words (at + 16) p.accepted (behind_accepted p rest) accepted_next (at + 32) (omega (arith, f.accepted))

  lowest_next : Stands words (at + 128) p.lowest (p.highest ++ rest)
  lowest_next =
      behind words (at + 32) (cell_words p.cells) (behind_cells p rest) cells_next (at + 128)
      (omega (arith, length_cell_words p.cells f.limbs, f.cells))

  highest_last : Stands words (at + 132) p.highest rest
  highest_last = behind words (at + 128) p.lowest (p.highest ++ rest) lowest_next (at + 132) (omega (arith, f.lowest))

  period : period_from words at ≡ p
  period =
      rw (
        read words at p.booked (behind_booked p rest) booked_first f.booked,
        read words (at + 16) p.accepted (behind_accepted p rest) accepted_next f.accepted,
        cells words (at + 32) p.cells (behind_cells p rest) f.limbs cells_next f.cells,
        read words (at + 128) p.lowest (p.highest ++ rest) lowest_next f.lowest,
        read words (at + 132) p.highest rest highest_last f.highest,
        narrowed_same p.booked f.booked_narrow,
        narrowed_same p.accepted f.accepted_narrow,
      )

  after : drop (at + 136) words ≡ rest
  after = behind words (at + 132) p.highest rest highest_last (at + 136) (omega (arith, f.highest))

-- so is a highest level, and the highest level of each class, of 2 words
highest : (h : std.Option Level) (rest : List ℕ) → (let l = highest_words h ++ rest in highest_marked (get_or l 0 0) (get_or l 1 0)) ≡ h
highest (Some l) rest = refl
highest None rest = refl

pub two_words : (h : std.Option Level) → length (highest_words h) ≡ 2
two_words (Some l) = refl
two_words None = refl

class_wide : (cs : List (std.Option Level)) → Wide highest_words 2 cs
class_wide = wide highest_words two_words

pub length_class_words : (cs : List (std.Option Level)) → length (class_words cs) ≡ 2 * length cs
length_class_words cs = length_words_of_each highest_words 2 cs (class_wide cs)

any_levels : (cs : List (std.Option Level)) → Each AnyLevel cs
any_levels [] = tt
any_levels (c ∷ cs) = (tt, any_levels cs)

classes : (words : List ℕ) (at : ℕ) (cs : List (std.Option Level)) (rest : List ℕ) → Stands words at (class_words cs) rest
    → {count : ℕ} → length cs ≡ count → classes_from words at count ≡ cs
classes words at cs rest = entries words highest_words 2 class_from AnyLevel class_again at cs rest (any_levels cs) (class_wide cs)

-- so is a rate
rate : (r : Rate) → rate_from (rate_word r) ≡ r
rate Ten = refl
rate Twenty = refl
rate Forty = refl

-- a day is read from where it stands, whatever is behind it
day_read : (words : List ℕ) (d : Day) (rest : List ℕ) → DayFits d
    → drop 0 words ≡ period_words d.daytime ++ (period_words d.night ++ (rest_words d ++ (class_words d.highest_by_class ++ (settings_words d.settings ++ rest)))) → day_from words ≡ d
unfolding day_from
day_read words d rest fits s =
    let set = settings_words d.settings ++ rest in
    let by_class_lem = class_words d.highest_by_class ++ set in
    let others = rest_words d ++ by_class_lem in
    let by_night = period_words d.night ++ others in
    let second : drop 136 words ≡ by_night = after words 0 d.daytime fits.daytime by_night s in
    let third : drop 272 words ≡ others = after words 136 d.night fits.night others second in
    let fourth : drop 276 words ≡ by_class_lem = behind words 272 (rest_words d) by_class_lem third 276 (omega (arith, two_words d.highest)) in
    let levels = d.highest_by_class in
    let fifth : drop 308 words ≡ set =
    behind words 276 (class_words levels) set fourth 308 (omega (arith, length_class_words levels, fits.by_class)) in
    let setting : (i : ℕ) → get_or words (308 + i) 0 ≡ get_or set i 0 = λ i. sym (get_or-drop 308 words i 0) ∙ ap (λ (l : List ℕ). get_or l i 0) fifth in
    let word : (i : ℕ) → get_or words (272 + i) 0 ≡ get_or others i 0 = λ i. sym (get_or-drop 272 words i 0) ∙ ap (λ (l : List ℕ). get_or l i 0) third in
    rw (
      period words 0 d.daytime fits.daytime by_night s,
      period words 136 d.night fits.night others second,
      word 0,
      word 1,
      word 2,
      word 3,
      mod-eq_of_lt fits.classes,
      highest d.highest by_class_lem,
      classes words 276 levels set fourth fits.by_class,
      setting 0,
      setting 1,
      setting 2,
      rate d.settings.rate,
    )

pub inverse : InverseLaw
unfolding day_words
inverse d fits = day_read (day_words d) d (replicate 9 0) fits refl
