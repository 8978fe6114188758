-- Every day that calls reach fits into its words.
use mathlib.Core.Bool.{Bool, true, false, not, ◌||◌}
use mathlib.Core.Path.{◌≡◌, refl, ap}
use mathlib.Core.List.{List, [], ◌∷◌}
use Prim.Native.Nat.{ℕ, zero, suc, ◌+◌, ◌≤◌, ◌<◌}
use native.Mathlib.Omega.{arith}
use lib.Dec.{eqb, ltb}
use lib.ListN.{length, get_or, set, length-set, length-replicate}
use borrow.Author.Rules.{rules}
use borrow.Author.Tests.{ltb-false, leb-false}
use Rattle.quantity.specs.declared.Instant.{Instant}
use Rattle.quantity.specs.Rules.{first_of, refused, given, outcome, follow}
use Rattle.quantity.proofs.Lists.{each_set, each_same}
use Rattle.quantity.proofs.Refusing.{pass}
use Rattle.quantity.proofs.Tests.{neither}
use Rattle.limbs.proofs.Digits.{length_limbs_of}
use Rattle.ledger.specs.Book.{sum_of, padded, most_classes, most_flights, is_book_invalid}
use Rattle.clock.specs.Clock.{hours}
use Rattle.clock.specs.declared.Settings.{Settings}
use Rattle.ledger.specs.Day.{Answered, empty_cell, fresh_period, fresh_day, no_day, open_rules, opened_day, period_of, with_period}
use Rattle.admission.specs.Checks.{day_checks, in_daytime}
use Rattle.offering.specs.Offer.{with_event, in_hour, admitted}
use Rattle.offering.specs.Entering.{HasFlight}
use Rattle.ledger.specs.declared.Day.{Day}
use Rattle.ledger.specs.declared.Period.{Period}
use Rattle.ledger.proofs.Books.{book_fits}
use Rattle.event.specs.Event.{event_of}
use Rattle.exposure.specs.Exposure.{EnergyRange, energy_range_by}
use Rattle.day_words.specs.Words.{Narrow, FourLimbs, PeriodFits, DayFits, OpenedLaw, OfferedLaw}

length_padded : (k : ℕ) (xs : List ℕ) → length (padded k xs) ≡ k
length_padded zero xs = refl
length_padded (suc k) [] = ap suc (length_padded k [])
length_padded (suc k) (x ∷ xs) = ap suc (length_padded k xs)

-- counts that fit into 16 bits: in sixteen places, with one of them changed, and where their sum does
narrow_padded : (k : ℕ) (xs : List ℕ) → Narrow xs → Narrow (padded k xs)
narrow_padded zero xs h i = omega arith
narrow_padded (suc k) [] h zero = omega arith
narrow_padded (suc k) [] h (suc i) = narrow_padded k [] h i
narrow_padded (suc k) (x ∷ xs) h zero = h 0
narrow_padded (suc k) (x ∷ xs) h (suc i) = narrow_padded k xs (λ j. h (suc j)) i

narrow_set : (xs : List ℕ) (k : ℕ) {x : ℕ} → Narrow xs → x < 65536 → Narrow (set xs k x)
narrow_set [] k h small i = h i
narrow_set (y ∷ ys) zero h small zero = small
narrow_set (y ∷ ys) zero h small (suc i) = h (suc i)
narrow_set (y ∷ ys) (suc k) h small zero = h 0
narrow_set (y ∷ ys) (suc k) h small (suc i) = narrow_set ys k (λ j. h (suc j)) small i

below_sum : (xs : List ℕ) (i : ℕ) → get_or xs i 0 ≤ sum_of xs
unfolding sum_of
below_sum [] i = omega arith
below_sum (x ∷ xs) zero = omega arith
below_sum (x ∷ xs) (suc i) = omega (arith, below_sum xs i)

fresh_period_fits : (flights : List ℕ) → Narrow flights → PeriodFits (fresh_period flights)
fresh_period_fits flights narrow =
    record {
      booked = length_padded most_classes flights;
      accepted = length-replicate {A = ℕ} most_classes 0;
      cells = length-replicate hours empty_cell;
      limbs = each_same FourLimbs hours empty_cell (length-replicate {A = ℕ} 4 0);
      lowest = length-replicate {A = ℕ} 4 0;
      highest = length-replicate {A = ℕ} 4 0;
      booked_narrow = narrow_padded most_classes flights narrow;
      accepted_narrow = narrow_padded most_classes [] (λ i. omega arith);
    }

fresh_fits : (c : Settings) (end : Instant) (daytime night : List ℕ) → length daytime ≤ most_classes → Narrow daytime → Narrow night
    → DayFits (fresh_day c end daytime night)
fresh_fits c end daytime night h by_day by_night =
    record { classes = omega (arith, h); daytime = fresh_period_fits daytime by_day; night = fresh_period_fits night by_night; by_class = refl }

few_flights : (daytime night : List ℕ) → is_book_invalid daytime night ≡ false → sum_of daytime + sum_of night ≤ most_flights
few_flights daytime night h =
    let others = (neither (eqb (length daytime) 0 || ltb most_classes (length daytime)) (_) h).1 in
    ltb-false _ _ (neither (not (eqb (length daytime) (length night))) (_) others).1

-- what follows an opening that is refused, and one that is not
abbrev none_opened : ℕ → Answered Unit
none_opened n = record { day = no_day; answer = refused n }

abbrev is_opened : Day → Answered Unit
is_opened day = record { day = day; answer = given tt }

-- the book of a day that opens has 16 classes and 2000 flights at the most
pub opened_fits : OpenedLaw
opened_fits o = go (first_of (open_rules o)) refl
  where
    daytime : List ℕ
    daytime = o.daytime

    night : List ℕ
    night = o.night

    go : (n : ℕ) → first_of (open_rules o) ≡ n → DayFits (follow (outcome n (opened_day o)) none_opened is_opened).day
    go zero h =
        let valid = (pass (open_rules o) (search rules) h).1.0 in
        let few = few_flights daytime night valid in
        fresh_fits _ _ daytime night (book_fits daytime night valid).0 (λ i. omega (arith, below_sum daytime i)) (λ i. omega (arith, below_sum night i))
    go (suc n) h = fresh_fits _ _ [] [] (omega arith) (λ i. omega arith) (λ i. omega arith)

with_event_fits : (p : Period) (class hour : ℕ) (S : EnergyRange) → PeriodFits p → HasFlight p class → PeriodFits (with_event p class hour S)
with_event_fits p class hour S f left =
    record {
      booked = f.booked;
      accepted = rw length-set f.accepted;
      cells = rw length-set f.cells;
      limbs = each_set FourLimbs p.cells hour _ f.limbs (length_limbs_of 4 _);
      lowest = length_limbs_of 4 _;
      highest = length_limbs_of 4 _;
      booked_narrow = f.booked_narrow;
      accepted_narrow = narrow_set p.accepted class f.accepted_narrow (omega (arith, f.booked_narrow class));
    }

period_fits : (d : Day) (b : Bool) → DayFits d → PeriodFits (period_of d b)
period_fits d true f = f.daytime
period_fits d false f = f.night

with_period_fits : (d : Day) (b : Bool) (p : Period) → DayFits d → PeriodFits p → DayFits (with_period d b p)
with_period_fits d true p f g = record { classes = f.classes; daytime = g; night = f.night; by_class = f.by_class }
with_period_fits d false p f g = record { classes = f.classes; daytime = f.daytime; night = g; by_class = f.by_class }

-- an accepted event had a flight left in the book
pub offered_fits : OfferedLaw
offered_fits d o f = go (first_of (day_checks d o)) refl
  where
    go : (n : ℕ) → first_of (day_checks d o) ≡ n → DayFits (follow (outcome n (admitted d o)) (λ k. record { day = d; answer = refused k }) (λ next. next)).day
    go zero h =
        let r = o.recording in
        let event = event_of o.samples in
        let by_day = in_daytime d.settings r event in
        let left = leb-false _ _ (pass (day_checks d o) (search rules) h).1.1.1.1.1.1.1.1.1.0 in
        let with_event_lem = with_event_fits (period_of d by_day) r.class (in_hour d r event) (energy_range_by event r.tolerance.0 o.samples) (period_fits d by_day f) left in
        let next = with_period_fits d by_day _ f with_event_lem in
        record { classes = next.classes; daytime = next.daytime; night = next.night; by_class = rw length-set next.by_class }
    go (suc n) h = f
