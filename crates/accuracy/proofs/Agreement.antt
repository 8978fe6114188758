-- The relation between tally and day: the day is the one that the tally gives, and the tally keeps its bounds. A fresh day has it.
use Rattle.std.specs.Prelude as std
use Rattle.std.specs.Prelude.{None}
use Rattle.quantity.specs.declared.Level.{Level}
use mathlib.Core.Path.{◌≡◌, refl, sym}
use mathlib.Core.Bool.{Bool, true, false, not, ◌||◌}
use mathlib.Core.List.{List, [], ◌∷◌, map}
use Prim.Native.Nat.{ℕ, ◌*◌, ◌^◌, ◌≤◌, ◌<◌, zero-le}
use native.Mathlib.Nat.{lt_of_le_of_lt}
use native.Mathlib.Omega.{arith}
use borrow.Author.Rules.{rules}
use borrow.Author.Tests.{eqb-true, eqb-false, ltb-false, not-false}
use lib.Dec.{eqb, ltb}
use lib.ListN.{length, get_or, length-replicate}
use Rattle.quantity.specs.Limits.{highest_sample}
use Rattle.quantity.specs.Lists.{Each}
use Rattle.quantity.specs.Rules.{first_of}
use Rattle.quantity.specs.declared.Bound.{Bound}
use Rattle.quantity.specs.declared.Bound.TheVariants.{Lowest, Highest}
use Rattle.quantity.proofs.Refusing.{pass}
use Rattle.quantity.proofs.Lists.{zero_at}
use Rattle.power.specs.Power.{e}
use Rattle.limbs.specs.Value.{base}
use Rattle.clock.specs.Clock.{latest_end}
use Rattle.limbs.proofs.Digits.{value_limbs_of_whole}
use Rattle.event.specs.Window.{highest}
use Rattle.ledger.specs.Book.{most_classes, sum_of, padded}
use Rattle.ledger.specs.Day.{none_by_class, Opening, open_rules, opened_day, period_of, energy_in, energy_at_bound}
use Rattle.offering.specs.Offer.{raised, raised_in_class}
use Rattle.ledger.specs.declared.Cell.{Cell}
use Rattle.ledger.specs.declared.Period.{Period}
use Rattle.ledger.specs.declared.Day.{Day}
use Rattle.accuracy.specs.Tally.{Held, Tally, book_of, started, held_at}
use Rattle.accuracy.specs.Laws.{Apart, WithinReach, period_energy}
use Rattle.accuracy.specs.Hours.{HasPeak, PeaksInDay, held_energy}
use Rattle.quantity.proofs.Tests.{neither}
use Rattle.accuracy.proofs.Held.{last_end, last_within, apart_last, count_in, Low, held_most}
use Rattle.accuracy.proofs.Lists.{padded_at, padded_sum, padded_zeros, sum_zeros}
use Rattle.accuracy.proofs.Sums.{period_part, day_fits}
use Rattle.accuracy.proofs.Cells.{cells_of_stretches, cells_sum}
use Rattle.accuracy.proofs.Ranges.{apart_at, low_at, sum_of_stretches, sum_has}

-- the day that a tally gives: for each period the flights and the counts in sixteen places, the energies in the cells of their hours, and those at both ends
abbrev pub period_of_parts : List ℕ → List ℕ → List Cell → (Bound → List ℕ) → Period
period_of_parts book count cells sums =
    record { booked = padded most_classes book; accepted = padded most_classes count; cells = cells; lowest = sums Lowest; highest = sums Highest }

abbrev pub period_of_tally : Tally → Bool → Period
period_of_tally t p =
    let hs = t.stretches in
    period_of_parts (t.book p) (t.count p) (cells_of_stretches t.settings.rate p hs) (λ b. sum_of_stretches b p hs)

abbrev pub highest_of_stretches : List Held → std.Option Level
highest_of_stretches [] = None
highest_of_stretches (h ∷ hs) = raised (highest_of_stretches hs) (record { 0 = highest h.levels })

abbrev pub classes_of_stretches : List Held → List (std.Option Level)
classes_of_stretches [] = none_by_class
classes_of_stretches (h ∷ hs) = raised_in_class (classes_of_stretches hs) h.class (record { 0 = highest h.levels })

abbrev pub day_of_tally : Tally → Day
day_of_tally t =
    record {
      settings = t.settings;
      classes = length (t.book true);
      daytime = period_of_tally t true;
      night = period_of_tally t false;
      end = record { 0 = t.end };
      highest = highest_of_stretches t.stretches;
      highest_by_class = classes_of_stretches t.stretches;
    }

-- an end is that of the last stretch
abbrev pub EndsWith : ℕ → List Held → Type 0
EndsWith end [] = Unit
EndsWith end (h ∷ hs) = h.to ≡ end

-- each stretch is of one of the first n classes
abbrev pub OfFirst : ℕ → List Held → Type 0
OfFirst n [] = Unit
OfFirst n (h ∷ hs) = (h.class < n) × OfFirst n hs

-- the bounds of a tally: 1 to 16 classes, no count passes the book, as many are counted as there are stretches, these are of its classes, lie apart and within reach of the day, hold their
-- peaks and have them in the day, and have a sample at each of their instants at the most, none above the highest level
pub record Bounded (t : Tally) : Type 0 where
  pub some : 1 ≤ length (t.book true)
  pub most : length (t.book true) ≤ most_classes
  pub booked : (p : Bool) → length (t.book p) ≡ length (t.book true)
  pub counted : (p : Bool) → length (t.count p) ≡ length (t.book true)
  pub counts : (p : Bool) (class : ℕ) → get_or (t.count p) class 0 ≤ get_or (t.book p) class 0
  pub counting : (p : Bool) → sum_of (t.count p) ≡ count_in p t.stretches
  pub classes : OfFirst (length (t.book true)) t.stretches
  pub within : WithinReach t.settings.rate t.stretches
  pub held : Each HasPeak t.stretches
  pub peaks : PeaksInDay t.settings.rate t.stretches
  pub last : EndsWith t.end t.stretches
  pub apart : Apart t.end t.stretches
  pub low : Each Low t.stretches

pub record Agrees (t : Tally) (day : Day) : Type 0 where
  pub same : day ≡ day_of_tally t
  pub bounded : Bounded t

pub period_of_tally_lem : (t : Tally) (p : Bool) → period_of (day_of_tally t) p ≡ period_of_tally t p
period_of_tally_lem t true = refl
period_of_tally_lem t false = refl

-- no sum of the energies of stretches wraps, nor does one at an end
module _ {t : Tally} (b : Bounded t) where
  ends : last_end t.stretches ≤ latest_end t.settings.rate
  ends = last_within t.settings.rate t.stretches b.within

  pub energy_most : held_energy t.stretches ≤ e highest_sample * last_end t.stretches
  energy_most = held_most (last_end t.stretches) t.stretches (apart_last _ t.stretches b.apart) b.low

  pub energy_fits : held_energy t.stretches < base ^ 4
  energy_fits = day_fits t.settings.rate (held_energy t.stretches) (last_end t.stretches) energy_most ends

  bound_fits : (bound : Bound) → held_energy (map (held_at bound) t.stretches) < base ^ 4
  bound_fits bound =
      let hs = t.stretches in
      let moved = map (held_at bound) hs in
      let apart = apart_at bound (last_end hs) hs (apart_last _ hs b.apart) in
      day_fits t.settings.rate (held_energy moved) (last_end hs) (held_most (last_end hs) moved apart (low_at bound hs b.low)) ends

-- the day's sixteen places hold the tally's numbers, and its cells the tally's energies
module _ {t : Tally} (b : Bounded t) (p : Bool) where
  book_fits : length (t.book p) ≤ most_classes
  book_fits = rw (b.booked p) b.most

  count_fits : length (t.count p) ≤ most_classes
  count_fits = rw (b.counted p) b.most

  pub book_at : (class : ℕ) → get_or (padded most_classes (t.book p)) class 0 ≡ get_or (t.book p) class 0
  book_at class = padded_at most_classes (t.book p) class book_fits

  pub count_at : (class : ℕ) → get_or (padded most_classes (t.count p)) class 0 ≡ get_or (t.count p) class 0
  count_at class = padded_at most_classes (t.count p) class count_fits

  pub book_sum : sum_of (padded most_classes (t.book p)) ≡ sum_of (t.book p)
  book_sum = padded_sum most_classes (t.book p) book_fits

  pub count_sum : sum_of (padded most_classes (t.count p)) ≡ sum_of (t.count p)
  count_sum = padded_sum most_classes (t.count p) count_fits

  pub sum_whole : energy_in (period_of_tally t p) ≡ period_energy p t.stretches
  sum_whole =
      let hs = t.stretches in
      rw (cells_sum (value_limbs_of_whole 4) t.settings.rate p hs b.peaks (energy_fits b)) (value_limbs_of_whole 4 (period_energy p hs) (lt_of_le_of_lt (period_part p hs) (energy_fits b)))

  pub bound_whole : (bound : Bound) → energy_at_bound bound (period_of_tally t p) ≡ period_energy p (map (held_at bound) t.stretches)
  bound_whole Lowest = sum_has (value_limbs_of_whole 4) Lowest p t.stretches (bound_fits b Lowest)
  bound_whole Highest = sum_has (value_limbs_of_whole 4) Highest p t.stretches (bound_fits b Highest)

-- the fresh day
book_even : (daytime night : List ℕ) → length daytime ≡ length night → (p : Bool) → length (book_of daytime night p) ≡ length daytime
book_even daytime night h true = refl
book_even daytime night h false = sym h

pub fresh : (o : Opening) → first_of (open_rules o) ≡ 0 → Agrees (started o) (opened_day o)
unfolding held_energy
fresh o h =
    let n = length o.daytime in
    let rules = pass (open_rules o) (search rules) h in
    let valid = neither (eqb n 0 || ltb most_classes n) (_) rules.1.0 in
    let classes = neither (eqb n 0) (ltb most_classes n) valid.0 in
    let even = eqb-true n (length o.night) (not-false (eqb n (length o.night)) (neither (not (eqb n (length o.night))) (_) valid.1).0) in
    record {
      same = rw (padded_zeros most_classes n);
      bounded =
          record {
            some = omega (arith, eqb-false n 0 classes.0);
            most = ltb-false most_classes n classes.1;
            booked = book_even o.daytime o.night even;
            counted = λ p. length-replicate n 0;
            counts = λ p class. rw (zero_at n class) zero-le;
            counting = λ p. sum_zeros n;
            classes = tt;
            within = tt;
            held = tt;
            peaks = tt;
            last = tt;
            apart = tt;
            low = tt;
          };
    }
