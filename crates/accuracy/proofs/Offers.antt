-- An offer: day and tally refuse it by the same number, or both take it in and agree again; and what is demanded of the answer.
use Rattle.std.specs.Prelude as std
use Rattle.quantity.specs.declared.Level.{Level}
use mathlib.Core.Path.{◌≡◌, refl, sym, ap, ◌∙◌}
use mathlib.Core.Bool.{Bool, true, false, cond}
use mathlib.Core.List.{List, ◌∷◌}
use Prim.Native.Nat.{ℕ, zero, suc, ◌+◌, ◌-◌, ◌≤◌, ◌<◌}
use native.Mathlib.Nat.{le_refl}
use native.Mathlib.Omega.{arith}
use borrow.Author.Tests.{leb-false, eqb-false}
use lib.Dec.{leb, eqb}
use lib.ListN.{length, get_or, set, length-set}
use Rattle.quantity.specs.Rules.{Rule, first_of, outcome, follow}
use Rattle.quantity.specs.declared.Bound.{Bound}
use Rattle.quantity.specs.declared.Bound.TheVariants.{Lowest, Highest}
use Rattle.power.specs.Power.{e}
use Rattle.clock.specs.Clock.{hour_of}
use Rattle.clock.specs.declared.Settings.{Settings}
use Rattle.event.specs.Window.{highest, peak_of}
use Rattle.event.specs.Stretch.{stretch_first, stretch_end, stretch_of}
use Rattle.event.specs.Event.{event_of}
use Rattle.exposure.specs.Exposure.{EnergyRange, range_of, energy_range_by}
use Rattle.exposure.proofs.Accuracy.{exposure_accurate}
use Rattle.event.proofs.Whole.{in_window, peak_inside}
use Rattle.ledger.specs.Book.{most_classes, sum_of}
use Rattle.ledger.specs.Day.{period_of, with_period}
use Rattle.admission.specs.Checks.{Offering, day_checks, used_up}
use Rattle.offering.specs.Offer.{offered_by, offered, cells_with, sum_with, with_event, entered, raised, raised_in_class}
use Rattle.ledger.specs.declared.Period.{Period}
use Rattle.ledger.specs.declared.Day.{Day}
use Rattle.accuracy.specs.Tally.{offering, Held, Tally, tallied, joined, period_in, count_raised, same_as, tally_checks}
use Rattle.accuracy.specs.Demand.{OfferDemanded}
use Rattle.accuracy.specs.Hours.{held_energy}
use Rattle.accuracy.proofs.Tests.{cond_both, first_limit, reached_equal}
use Rattle.accuracy.proofs.Held.{apart_later, count_in}
use Rattle.accuracy.proofs.Lists.{padded_set, raised_within, sum_raised}
use Rattle.accuracy.proofs.Cells.{cells_of_stretches}
use Rattle.accuracy.proofs.Ranges.{sum_of_stretches}
use Rattle.accuracy.proofs.Windows.{at_peak, highest_stretch, stretch_length, Admitted, admits}
use Rattle.accuracy.proofs.Agreement.{period_of_parts, period_of_tally, day_of_tally, Bounded, Agrees, period_of_tally_lem, book_at, count_at}

-- the rules against a day that a tally gives are the tally's own
module _ {t : Tally} (b : Bounded t) where
  used_same : (p : Bool) (class : ℕ) → used_up (period_of (day_of_tally t) p) class ≡ eqb (get_or (t.count p) class 0) (get_or (t.book p) class 0)
  used_same p class = rw (period_of_tally_lem t p, book_at b p class, count_at b p class) (reached_equal _ _ (b.counts p class))

  pub checks_same : (o : Offering) → day_checks (day_of_tally t) o ≡ tally_checks t o
  checks_same o =
      let class = o.recording.class in
      rw (first_limit (length (t.book true)) most_classes class b.most, used_same (period_in t.settings o) class)

-- days that differ in their periods and their highest levels
day_same : {settings : Settings} {classes end : ℕ} {d d' n n' : Period} {h h' : std.Option Level} {l l' : List (std.Option Level)}
    → d ≡ d' → n ≡ n' → h ≡ h' → l ≡ l'
    → ◌≡◌ {A = Day}
    (record { settings = settings; classes = classes; daytime = d; night = n; end = record { 0 = end }; highest = h; highest_by_class = l })
    (record { settings = settings; classes = classes; daytime = d'; night = n'; end = record { 0 = end }; highest = h'; highest_by_class = l' })
day_same {settings} {classes} {end} p q r s = λ i.
    record { settings = settings; classes = classes; daytime = p i; night = q i; end = record { 0 = end }; highest = r i; highest_by_class = s i }

-- a class has flights left in a period
abbrev HasRoom : Tally → ℕ → Bool → Type 0
HasRoom t class p = get_or (t.count p) class 0 < get_or (t.book p) class 0

-- the energy of a stretch at an end
abbrev energy_at : Bound → EnergyRange → ℕ
energy_at Lowest S = S.lowest
energy_at Highest S = S.highest

-- the tally with one stretch more
abbrev with_stretch : Tally → Held → Tally
with_stretch t h =
    record { settings = t.settings; book = t.book; end = h.to; count = count_raised t.count h.daytime h.class; stretches = h ∷ t.stretches }

module _ {t : Tally} (b : Bounded t) (class : ℕ) (booked : class < length (t.book true)) where
  in_counts : (p : Bool) → class < length (t.count p)
  in_counts p = rw (b.counted p) booked

  -- the day with the event is the day of the tally with the stretch
  with_event_lem : (p : Bool) (hour : ℕ) (S : EnergyRange)
      → with_event (period_of_tally t p) class hour S
      ≡ period_of_parts (t.book p) (set (t.count p) class (get_or (t.count p) class 0 + 1))
      (cells_with (cells_of_stretches t.settings.rate p t.stretches) hour S.recorded)
      (λ b. sum_with (sum_of_stretches b p t.stretches) (energy_at b S))
  with_event_lem p hour S =
      rw (count_at b p class, padded_set most_classes (t.count p) class (get_or (t.count p) class 0 + 1) (in_counts p))

  event_same : (p : Bool) (peak from to u : ℕ) (levels : List ℕ) {top : ℕ} → top ≡ highest levels
      → let next = with_period (day_of_tally t) p (with_event (period_of (day_of_tally t) p) class (hour_of t.settings.rate peak) (range_of u levels)) in
      ◌≡◌ {A = Day}
      (record {
        settings = t.settings;
        classes = next.classes;
        daytime = next.daytime;
        night = next.night;
        end = record { 0 = to };
        highest = raised next.highest (record { 0 = top });
        highest_by_class = raised_in_class next.highest_by_class class (record { 0 = top });
      })
      (day_of_tally (with_stretch t (record { class = class; daytime = p; peak = peak; from = from; to = to; tolerance = u; levels = levels })))
  event_same true peak from to u levels e = day_same (with_event_lem true (hour_of t.settings.rate peak) (range_of u levels)) refl (rw e) (rw e)
  event_same false peak from to u levels e = day_same refl (with_event_lem false (hour_of t.settings.rate peak) (range_of u levels)) (rw e) (rw e)

  -- a count is raised, and stays within the book where it has room there
  counted_length : (p q : Bool) → length (count_raised t.count p class q) ≡ length (t.book true)
  counted_length p q = cond_both (λ l. length l ≡ length (t.book true)) (same_as p q) (length-set (t.count q) class _ ∙ b.counted q) (b.counted q)

  raised_count : (p : Bool) → HasRoom t class p → (k : ℕ) → get_or (set (t.count p) class (get_or (t.count p) class 0 + 1)) k 0 ≤ get_or (t.book p) k 0
  raised_count p g = raised_within (t.count p) (t.book p) class (in_counts p) g (b.counts p)

  counted_within : (p : Bool) → HasRoom t class p → (q : Bool) (k : ℕ) → get_or (count_raised t.count p class q) k 0 ≤ get_or (t.book q) k 0
  counted_within true g true = raised_count true g
  counted_within true g false = b.counts false
  counted_within false g true = b.counts true
  counted_within false g false = raised_count false g

  -- and as many are counted as there are stretches
  counted_more : (p q : Bool) → sum_of (count_raised t.count p class q) ≡ cond (same_as p q) 1 0 + count_in q t.stretches
  counted_more true true = omega (arith, sum_raised (t.count true) class 1 (in_counts true), b.counting true)
  counted_more true false = omega (arith, b.counting false)
  counted_more false true = omega (arith, b.counting true)
  counted_more false false = omega (arith, sum_raised (t.count false) class 1 (in_counts false), b.counting false)

-- a stretch has its highest level at its peak, whenever its window begins
in_stretch : (start : ℕ) (s : List ℕ) → 0 < length s
    → get_or (stretch_of s) (start + peak_of s - (start + stretch_first s)) 0 ≡ highest (stretch_of s)
in_stretch start s h =
    let place : start + peak_of s - (start + stretch_first s) ≡ peak_of s - stretch_first s = omega arith in
    rw (place, highest_stretch s h) (at_peak s h)

-- an offer that no rule of the tally refuses
module _ {t : Tally} (b : Bounded t) (o : Offering) (free : first_of (tally_checks t o) ≡ 0) where
  admission : Admitted t.settings.rate o
      (leb (length (t.book true)) o.recording.class)
      t.end
      (eqb (get_or (t.count (period_in t.settings o)) o.recording.class 0) (get_or (t.book (period_in t.settings o)) o.recording.class 0))
  admission = admits _ o _ _ _ free

  in_book : o.recording.class < length (t.book true)
  in_book = leb-false _ _ admission.booked

  joined_same : entered (day_of_tally t) o.recording (event_of o.samples) (energy_range_by (event_of o.samples) o.recording.tolerance.0 o.samples) ≡ day_of_tally (joined t o)
  joined_same =
      let c = o.recording in
      let s = o.samples in
      event_same b c.class in_book (period_in t.settings o) (c.start.0 + peak_of s) (c.start.0 + stretch_first s) (c.start.0 + stretch_end s) c.tolerance.0 (stretch_of s)
      (sym (highest_stretch s admission.some))

  pub joined_bounded : Bounded (joined t o)
  unfolding held_energy
  joined_bounded =
      let class = o.recording.class in
      let s = o.samples in
      let p = period_in t.settings o in
      let a = admission in
      let count = get_or (t.count p) class 0 in
      let flights = get_or (t.book p) class 0 in
      let room : HasRoom t class p = omega (arith, b.counts p class, eqb-false count flights a.unused) in
      let places = peak_inside s a.some in
      record {
        some = b.some;
        most = b.most;
        booked = b.booked;
        counted = counted_length b class in_book p;
        counts = counted_within b class in_book p room;
        counting = counted_more b class in_book p;
        classes = (in_book, b.classes);
        within = ((omega (arith, a.inside.begins), omega (arith, in_window s, a.inside.ends)), b.within);
        held = ((omega arith, omega arith, in_stretch o.recording.start.0 s a.some), b.held);
        peaks = ((a.inside.peak_from, a.inside.peak_before), b.peaks);
        last = refl;
        apart = (le_refl _, omega arith, apart_later t.stretches a.after b.apart);
        low = ((omega (arith, stretch_length s, in_window s), rw (highest_stretch s a.some) a.level), b.low);
      }

module _ {t : Tally} (b : Bounded t) (o : Offering) where
  offered_same : offered (day_of_tally t) o ≡ offered_by (first_of (tally_checks t o)) (day_of_tally t) o
  offered_same = ap (λ (rules : List Rule). offered_by (first_of rules) (day_of_tally t) o) (checks_same b o)

  pub offer_keeps : Agrees (tallied t (offering o)) (offered (day_of_tally t) o).day
  offer_keeps = rw offered_same (by_number (first_of (tally_checks t o)) refl)
    where
      by_number : (n : ℕ) → first_of (tally_checks t o) ≡ n → Agrees (follow (outcome n (joined t o)) (λ k. t) (λ next. next)) (offered_by n (day_of_tally t) o).day
      by_number zero h = record { same = joined_same b o h; bounded = joined_bounded b o h }
      by_number (suc n) h = record { same = refl; bounded = b }

  pub offer_demanded : (K : ℕ) → OfferDemanded K t o (offered (day_of_tally t) o).answer
  offer_demanded K = rw offered_same (by_number (first_of (tally_checks t o)) refl)
    where
      by_number : (n : ℕ) → first_of (tally_checks t o) ≡ n → OfferDemanded K t o (offered_by n (day_of_tally t) o).answer
      by_number zero h = (h, refl, exposure_accurate K t.settings.rate o.samples)
      by_number (suc n) h = (h, omega arith)
