-- The energy of each clock hour is that of the tally's stretches, whose peaks lie in them and in the day; and every closing is the one by the two sums that the
-- day kept before.
use mathlib.Core.Path.{◌≡◌, refl, sym, ap, ap₂, ◌∙◌, subst}
use mathlib.Core.Bool.{Bool, true, false, cond}
use mathlib.Core.List.{List, [], ◌∷◌, ◌++◌, map}
use Prim.Native.Nat.{ℕ, zero, suc, ◌+◌, ◌-◌, ◌^◌, ◌≤◌, ◌<◌}
use native.Mathlib.Nat.{lt_of_le_of_lt}
use native.Mathlib.Omega.{arith}
use borrow.Author.Tests.{ne_eqb, eqb-true, eqb-false}
use lib.Dec.{eqb}
use Rattle.quantity.specs.Lists.{Each}
use Rattle.quantity.specs.Rules.{first_of, outcome, follow}
use Rattle.quantity.proofs.Tests.{test}
use Rattle.power.specs.Power.{e}
use Rattle.limbs.specs.Value.{base, value, limbs_of}
use Rattle.limbs.proofs.Digits.{value_limbs_of_whole}
use Rattle.level.specs.Accuracy.{weighted}
use Rattle.level.proofs.Bounds.{exact_low, exact_high}
use Rattle.clock.specs.Clock.{day_ticks, hours, hour_of}
use Rattle.clock.specs.declared.Rate.{Rate}
use Rattle.clock.proofs.Hours.{hour_below}
use Rattle.decades.specs.Decades.{energies}
use Rattle.exposure.specs.Exposure.{energy_of}
use Rattle.ledger.specs.Day.{Opening, open_rules, opened_day, period_of, energy_in}
use Rattle.ledger.specs.declared.Day.{Day}
use Rattle.admission.specs.Checks.{Offering}
use Rattle.method.specs.Method.{counts_of}
use Rattle.closing.specs.Close.{close_rules, closing_by}
use Rattle.accuracy.specs.Tally.{Call, offering, closing, Held, Tally, started, tally_of, tallied, joined, period_in, same_as, tally_checks, held_samples}
use Rattle.accuracy.specs.Terminal.{day_after, day_after_calls, CalledDay, held_in, rate_in}
use Rattle.accuracy.specs.Laws.{Always, period_energy}
use Rattle.accuracy.specs.NextDay.{later, held_in_row}
use Rattle.accuracy.specs.Hours.{of_hour, held_energy, HasPeak, PeakLaw, PeaksInDay, HourGives, HourLaw, sum_of_hours, AddUp, HoursAddUp, HourAccuracy, sum_after, sum_after_calls, LdnLaw}
use Rattle.accuracy.proofs.Sums.{weighted_held, both_periods, period_part}
use Rattle.accuracy.proofs.Cells.{hour_part, cell_has}
use Rattle.accuracy.proofs.Agreement.{day_of_tally, Bounded, Agrees, fresh, energy_fits, sum_whole}
use Rattle.accuracy.proofs.Offers.{checks_same, joined_bounded}
use Rattle.accuracy.proofs.Claim.{always, agree, keeps, within_book}

-- the hours of the day that a tally gives
hour_gives : (t : Tally) → Bounded t → (hour : ℕ) → HourGives t (day_of_tally t) hour
hour_gives t b hour =
    let rate = t.settings.rate in
    let hs = t.stretches in
    let held = of_hour rate hour hs in
    let fits = energy_fits b in
    rw (cell_has (value_limbs_of_whole 4) rate true hour hs b.peaks fits, cell_has (value_limbs_of_whole 4) rate false hour hs b.peaks fits, both_periods held)
    (value_limbs_of_whole 4 (held_energy held) (lt_of_le_of_lt (hour_part rate hour hs) fits))

pub hour_law : HourLaw
hour_law = always (λ t day. (hour : ℕ) → HourGives t day hour) hour_gives

-- the peaks of the stretches of a day, and of days in a row
peak_later : (ticks : ℕ) (h : Held) → HasPeak h → HasPeak (later ticks h)
peak_later ticks h p =
    let place : ticks + h.peak - (ticks + h.from) ≡ h.peak - h.from = omega arith in
    (omega (arith, p.0), omega (arith, p.1), rw place p.2)

peaks_later : (ticks : ℕ) (hs held : List Held) → Each HasPeak hs → Each HasPeak held → Each HasPeak (map (later ticks) hs ++ held)
peaks_later ticks [] held e d = d
peaks_later ticks (h ∷ hs) held e d = (peak_later ticks h e.0, peaks_later ticks hs held e.1 d)

peaks_of_day : (d : CalledDay) → Each HasPeak (held_in d)
peaks_of_day d = (agree d.opening d.opens d.calls).bounded.held

peaks_in_row : (d : CalledDay) (ds : List CalledDay) → Each HasPeak (held_in_row d ds)
peaks_in_row d [] = peaks_of_day d
peaks_in_row d (n ∷ ns) = peaks_later (day_ticks (rate_in d)) (held_in_row n ns) (held_in d) (peaks_in_row n ns) (peaks_of_day d)

pub peak_law : PeakLaw
peak_law = (λ o h calls. (agree o h calls).bounded.held, peaks_in_row)

pub peaks_in_day : Always (λ t day. PeaksInDay t.settings.rate t.stretches)
peaks_in_day o h calls = (agree o h calls).bounded.peaks

-- sums over the first n hours: of two energies, and of one that a single hour k has
sum_both : (f g : ℕ → ℕ) (n : ℕ) → sum_of_hours (λ hour. f hour + g hour) n ≡ sum_of_hours f n + sum_of_hours g n
sum_both f g zero = omega arith
sum_both f g (suc n) = omega (arith, sum_both f g n)

sum_none : (k S n : ℕ) → n ≤ k → sum_of_hours (λ hour. cond (eqb k hour) S 0) n ≡ 0
sum_none k S zero l = refl
sum_none k S (suc n) l = rw (ne_eqb k n (λ same. absurd (omega (arith, same)))) (omega (arith, sum_none k S n (omega arith)))

sum_one : (k S n : ℕ) → k < n → sum_of_hours (λ hour. cond (eqb k hour) S 0) n ≡ S
sum_one k S zero l = absurd (omega arith)
sum_one k S (suc n) l =
    test (eqb k n)
    (λ t. rw t (omega (arith, sum_none k S n (omega (arith, eqb-true k n t)))))
    (λ f. rw f (omega (arith, sum_one k S n (omega (arith, eqb-false k n f)))))

-- each stretch has its energy in one hour
hours_sum : (rate : Rate) (hs : List Held) → PeaksInDay rate hs → sum_of_hours (λ hour. held_energy (of_hour rate hour hs)) hours ≡ held_energy hs
unfolding held_energy
hours_sum rate [] peaks = refl
hours_sum rate (h ∷ hs) peaks =
    let k = hour_of rate h.peak in
    let S = energies h.levels in
    ap (λ (f : ℕ → ℕ). sum_of_hours f hours) (λ i hour. split_hour hour i)
    ∙ sum_both (λ hour. cond (eqb k hour) S 0) (λ hour. held_energy (of_hour rate hour hs)) hours
    ∙ ap₂ ◌+◌ (sum_one k S hours (hour_below rate h.peak peaks.0.1)) (hours_sum rate hs peaks.1)
  where
    split_hour : (hour : ℕ) → held_energy (of_hour rate hour (h ∷ hs)) ≡ cond (eqb (hour_of rate h.peak) hour) (energies h.levels) 0 + held_energy (of_hour rate hour hs)
    split_hour hour = test (eqb (hour_of rate h.peak) hour) (λ t. rw t) (λ f. rw f (omega arith))

add_up : (t : Tally) → Bounded t → AddUp (day_of_tally t)
add_up t b =
    ap (λ (f : ℕ → ℕ). sum_of_hours f hours) (λ i hour. hour_gives t b hour i)
    ∙ hours_sum t.settings.rate t.stretches b.peaks
    ∙ sym (both_periods t.stretches)
    ∙ sym (ap₂ ◌+◌ (sum_whole b true) (sum_whole b false))

pub hours_add_up : HoursAddUp
hours_add_up = always (λ t day. AddUp day) add_up

-- samples of weight 1 have the energy of their stretches
unweighted : (hs : List Held) → weighted e (held_samples (λ p. 1) hs) ≡ held_energy hs
unweighted hs = weighted_held (λ p. 1) hs ∙ omega (arith, both_periods hs)

pub hour_accuracy : HourAccuracy
hour_accuracy K o opens calls hour =
    let t = tally_of (started o) calls in
    let held = of_hour t.settings.rate hour t.stretches in
    let samples = held_samples (λ p. 1) held in
    let same = hour_law o opens calls hour ∙ sym (unweighted held) in
    rw same (omega (arith, exact_low K samples), omega (arith, exact_high K samples))

-- the sum of a period as it was kept before is the energy of its stretches: an offer, a call, and a list of calls
module _ {t : Tally} (b : Bounded t) (p : Bool) {sum : ℕ} (same : sum ≡ period_energy p t.stretches) where
  sum_offered : (o : Offering) → sum_after p (day_of_tally t) (offering o) sum ≡ period_energy p (tallied t (offering o)).stretches
  unfolding period_energy
  sum_offered o = rw (checks_same b o) (by_number (first_of (tally_checks t o)) refl)
    where
      by_number : (n : ℕ) → first_of (tally_checks t o) ≡ n
          → follow (outcome n (energy_of o.samples)) (λ k. sum) (λ S. cond (same_as (period_in t.settings o) p) (value (limbs_of 4 (sum + S))) sum)
          ≡ period_energy p (follow (outcome n (joined t o)) (λ k. t) (λ next. next)).stretches
      by_number zero h =
          let S = energy_of o.samples in
          let next = (joined t o).stretches in
          let fits : period_energy p next < base ^ 4 → sum + S ≤ period_energy p next → value (limbs_of 4 (sum + S)) ≡ sum + S = λ f l. value_limbs_of_whole 4 (sum + S) (lt_of_le_of_lt l f) in
          test (same_as (period_in t.settings o) p)
          (λ y. rw y (fits (lt_of_le_of_lt (period_part p next) (energy_fits (joined_bounded b o h))) (rw y (omega (arith, same))) ∙ omega (arith, same)))
          (λ n. rw n (omega (arith, same)))
      by_number (suc n) h = same

  sum_called : (call : Call) → sum_after p (day_of_tally t) call sum ≡ period_energy p (tallied t call).stretches
  sum_called (offering o) = sum_offered o
  sum_called (closing before after) = same

sums_kept : {t : Tally} {day : Day} → Agrees t day → (p : Bool) (calls : List Call) {sum : ℕ} → sum ≡ period_energy p t.stretches
    → sum_after_calls p day calls sum ≡ period_energy p (tally_of t calls).stretches
sums_kept a p [] same = same
sums_kept {t = t} {day = day} a p (c ∷ cs) {sum} same =
    sums_kept {t = tallied t c} {day = day_after day c} (keeps a c) p cs
    (subst (λ (day : Day). sum_after p day c sum ≡ period_energy p (tallied t c).stretches) (sym a.same) (sum_called a.bounded p same c))

-- so closing forms Ldn from the sums of before
energy_before : (o : Opening) → first_of (open_rules o) ≡ 0 → (calls : List Call) (p : Bool)
    → energy_in (period_of (day_after_calls (opened_day o) calls) p) ≡ sum_after_calls p (opened_day o) calls 0
unfolding period_energy
energy_before o opens calls p = (within_book o opens calls).sums p ∙ sym (sums_kept (fresh o opens) p calls refl)

pub ldn_law : LdnLaw
ldn_law o opens calls before after =
    let day = day_after_calls (opened_day o) calls in
    ap₂ (λ (Sd Sn : ℕ). outcome (first_of (close_rules before after (counts_of day))) (closing_by day Sd Sn))
    (energy_before o opens calls true)
    (energy_before o opens calls false)
