-- Demand 3 through C: what a caller reads is the outcome that the claims of `accuracy` speak of.
use Rattle.std.specs.Prelude as std
use Rattle.std.specs.Prelude.{Some, None}
use Rattle.quantity.specs.declared.Level.{Level}
use mathlib.Core.Path.{◌≡◌, refl, sym, ap, ap₂, subst, ◌∙◌}
use mathlib.Core.Bool.{true, false}
use mathlib.Core.List.{List, [], ◌∷◌, map}
use mathlib.Core.Option.{Option, none}
use Prim.Native.Nat.{ℕ, zero, suc, ◌+◌, ◌*◌, ◌^◌, ◌≤◌, ◌<◌}
use native.Mathlib.Omega.{arith}
use borrow.Author.Rules.{rules}
use borrow.Author.Tests.{ltb-false, not-false}
use lib.Dec.{ltb, lit<, lit≤}
use lib.IntN.{ℤ}
use lib.ListN.{length, replicate}
use Rattle.quantity.specs.Answers.{Reading, reading, highest_reading}
use Rattle.quantity.specs.Lent.{leaves}
use Rattle.quantity.specs.Rules.{Outcome, refused, given, first_of, outcome}
use Rattle.quantity.specs.declared.Bound.TheVariants.{Lowest, Highest}
use Rattle.quantity.proofs.Outcomes.{refuses}
use Rattle.quantity.proofs.Refusing.{pass}
use Rattle.quantity.proofs.Tests.{neither, test}
use Rattle.limbs.specs.Value.{base}
use Rattle.level.specs.Level.{largest_level}
use Rattle.ledger.specs.Book.{most_classes, sum_of}
use Rattle.ledger.specs.Day.{opened_day, levels_by_class}
use Rattle.admission.specs.Checks.{Offering, day_checks}
use Rattle.offering.specs.Offer.{Accepted, offered_by, offered}
use Rattle.ledger.specs.declared.Day.{Day}
use Rattle.method.specs.Method.{method_one_holds, method_by, counts_of}
use Rattle.closing.specs.Formula.{formula_by, level_by}
use Rattle.closing.specs.Close.{Closing, close_rules, closing_of, closed, classes_given}
use Rattle.closing.proofs.Answers.{divisor_positive}
use Rattle.mean.specs.Mean.{is_count_wrong, any_outside, sum_of_powers, mean_rules, mean_of}
use Rattle.mean.specs.Records.{readings, DayReading}
use Rattle.accuracy.specs.Tally.{Tally, started, tally_of, offering, closing}
use Rattle.accuracy.specs.Terminal.{day_after_calls}
use Rattle.accuracy.specs.Demand.{OfferDemanded, CloseDemanded, Demanded, Claim}
use Rattle.accuracy.specs.Means.{ClosedDay, records_of, MeanDemanded, MeanClaim}
use Rattle.accuracy.proofs.Claim.{claim}
use Rattle.accuracy.proofs.Means.{mean_claim}
use Rattle.accuracy.proofs.Tolerance.{spread_law}
use Rattle.day_words.specs.Words.{day_words, day_from}
use Rattle.c_interface.specs.Numbers.{level_number, class_numbers, class_levels_from, record_number, record_level, record_levels, Told, ToldHighest}
use Rattle.c_interface.specs.Calls.{OfferLent, CloseLent, closed_leaves, close_leaves}
use Rattle.c_interface.proofs.Written.{told_level, record_law, told_highest}
use Rattle.c_accuracy.specs.Calls.{CCall, offer, close, call_of, lent_to, words_of}
use Rattle.c_accuracy.specs.Demand.{offer_seen, close_seen, classes_seen, mean_seen, CDemanded, CClaim, CSpreadLaw, Wrote, AllWrote, CMeanClaim, CDemand3}
use Rattle.c_accuracy.proofs.Told.{told_exposure, told_weighted, sum_most, told_mean}
use Rattle.c_accuracy.proofs.Held.{Low, AllLow, Reached, energy_below, whole}

-- an outcome that a caller reads as it is: its refusals have numbers, and its values are told
abbrev Plain : {A : Type 0} → (A → Type 0) → Outcome A → Type 0
Plain P (refused n) = 0 < n
Plain P (given a) = P a

offer_seen_lem : (lent : OfferLent) (day : List ℕ) (r : Outcome Accepted) → Plain (λ a. Told a.exposure) r
    → offer_seen (leaves lent r (λ a. record { day = day; exposure = level_number a.exposure; lmax = a.lmax })) ≡ r
offer_seen_lem lent day (refused n) h = refuses n h _
offer_seen_lem lent day (given a) h = rw (told_level a.exposure h)

-- a closing that is read as it is has the answer and the levels by class of the call; of a refused one the levels are not read
abbrev PlainClosing : Outcome Closing → Type 0
PlainClosing = Plain (λ c. Told c.ldn × Told c.lowest_ldn × Told c.highest_ldn × ToldHighest c.highest)

closing_seen : (lent : CloseLent) (r : Outcome Closing) (levels : List (Option ℕ)) → PlainClosing r
    → close_seen (closed_leaves lent (record { answer = r; highest_by_class = levels })) ≡ r
closing_seen lent (refused n) levels h = refuses n h _
closing_seen lent (given c) levels h =
    let r = record_law c.ldn c.method h.0 in
    rw (r.0, r.1, told_level c.lowest_ldn h.1, told_level c.highest_ldn h.2, told_highest c.highest h.3)

close_seen_lem : (K : ℕ) (t : Tally) (before after : ℕ) (lent : CloseLent) (r : Outcome Closing) (levels : List (Option ℕ))
    → PlainClosing r → class_levels_from (class_numbers levels) ≡ levels → CloseDemanded K t before after r levels
    → let l = closed_leaves lent (record { answer = r; highest_by_class = levels }) in CloseDemanded K t before after (close_seen l) (classes_seen l)
close_seen_lem K t before after lent (refused n) levels h e d =
    subst (λ (x : Outcome Closing). CloseDemanded K t before after x (class_levels_from lent.highest_by_class)) (sym (closing_seen lent (refused n) levels h)) d
close_seen_lem K t before after lent (given c) levels h e d =
    subst (λ (x : Outcome Closing). CloseDemanded K t before after x (class_levels_from (class_numbers levels))) (sym (closing_seen lent (given c) levels h)) (rw e d)

mean_seen_lem : (lent : ℤ) (r : Outcome Reading) → Plain Told r → mean_seen (leaves lent r level_number) ≡ r
mean_seen_lem lent (refused n) h = refuses n h _
mean_seen_lem lent (given r) h = rw (told_level r h)

-- the outcomes of offers and closings are such
plain_offer : (d : Day) (o : Offering) → Plain (λ a. Told a.exposure) (offered d o).answer
plain_offer d o = go (first_of (day_checks d o)) refl
  where
    go : (n : ℕ) → first_of (day_checks d o) ≡ n → Plain (λ a. Told a.exposure) (offered_by n d o).answer
    go zero h = told_exposure d.settings.rate o _ _ _ h
    go (suc n) h = omega arith

low_told : (h : std.Option Level) → Low h → ToldHighest (highest_reading h)
low_told (Some l) p = omega arith
low_told None p = tt

low_classes : (cs : List (std.Option Level)) → AllLow cs → class_levels_from (class_numbers (levels_by_class cs)) ≡ levels_by_class cs
low_classes [] p = refl
low_classes (c ∷ cs) p = ap₂ ◌∷◌ (told_highest (highest_reading c) (low_told c p.0)) (low_classes cs p.1)

no_classes : class_levels_from (class_numbers (replicate most_classes none)) ≡ replicate most_classes none
no_classes = refl

classes_told : (d : Day) → AllLow d.highest_by_class → (r : Outcome Closing) → class_levels_from (class_numbers (classes_given d r)) ≡ classes_given d r
classes_told d p (given c) = low_classes d.highest_by_class p
classes_told d p (refused n) = no_classes

-- the level of any two energies below 2 ^ 128, by the formula of a closing that is not refused
closing_told : (d : Day) → Reached d → (before after : ℕ) → first_of (close_rules before after (counts_of d)) ≡ 0 → {x y : ℕ} → x < base ^ 4 → y < base ^ 4
    → let c = counts_of d in Told (level_by (formula_by d.settings.rate (method_by c) c.totals) x y)
closing_told d r before after h below_x below_y =
    let c = counts_of d in
    let p = pass (close_rules before after c) (search rules) h in
    let divides = divisor_positive d.settings.rate c (not-false _ p.1.0) in
    let by_day = sum_most d.daytime.booked r.fits.daytime.booked_narrow in
    let by_night = sum_most d.night.booked r.fits.night.booked_narrow in
    let weight : sum_of d.daytime.booked + 10 * sum_of d.night.booked ≤ 10 ^ 8 = omega (arith, r.fits.daytime.booked, r.fits.night.booked) in
    let f = formula_by d.settings.rate (method_by c) c.totals in
    test (method_one_holds c.totals)
    (λ t. told_weighted f.offset f.divisor divides (rw t (lit≤ tt)) (rw t (lit≤ tt)) below_x below_y)
    (λ t. told_weighted f.offset f.divisor divides (rw t weight) (rw t weight) below_x below_y)

plain_closing : (d : Day) → Reached d → (before after : ℕ) → PlainClosing (closed d before after)
plain_closing d r before after = go (first_of (close_rules before after (counts_of d))) refl
  where
    go : (n : ℕ) → first_of (close_rules before after (counts_of d)) ≡ n → PlainClosing (outcome n (closing_of d))
    go zero h = (
      closing_told d r before after h (energy_below d.daytime) (energy_below d.night),
      closing_told d r before after h (r.ends Lowest true) (r.ends Lowest false),
      closing_told d r before after h (r.ends Highest true) (r.ends Highest false),
      low_told d.highest r.highest,
    )
    go (suc n) h = omega arith

plain_mean : (fewest most : ℕ) (days : List Reading) → 0 < fewest → most ≤ 366 → Plain Told (mean_of fewest most days)
unfolding mean_of
plain_mean fewest most days some few = go (first_of (mean_rules (is_count_wrong fewest most (length days)) (any_outside days))) refl
  where
    go : (n : ℕ) → first_of (mean_rules (is_count_wrong fewest most (length days)) (any_outside days)) ≡ n → Plain Told (outcome n (largest_level 0 (length days) (sum_of_powers days)))
    go zero h =
        let p = pass (mean_rules (is_count_wrong fewest most (length days)) (any_outside days)) (search rules) h in
        let right = neither (ltb (length days) fewest) (ltb most (length days)) p.0 in
        told_mean days (omega (arith, ltb-false (length days) fewest right.0)) (omega (arith, ltb-false most (length days) right.1)) p.1.0
    go (suc n) h = omega arith

-- offers and closings
pub c_claim : CClaim
unfolding CClaim Claim
c_claim K day opening e calls call = go call
  where
    go : (call : CCall) → CDemanded K (tally_of (started opening) (map call_of calls)) (words_of day opening calls) call
    go (offer o exposure lmax) =
        let w = whole day opening e calls in
        let words = words_of day opening calls in
        let d = day_from words in
        subst (OfferDemanded K (tally_of (started opening) (map call_of calls)) o)
        (ap (λ (x : Day). (offered x o).answer) (sym w.1)
        ∙ sym (offer_seen_lem (lent_to words exposure lmax) (day_words (offered d o).day) (offered d o).answer (plain_offer d o)))
        (claim K opening w.0 (map call_of calls) (offering o))
    go (close before after lent) =
        let w = whole day opening e calls in
        let d = day_from (words_of day opening calls) in
        let t = tally_of (started opening) (map call_of calls) in
        close_seen_lem K t before after lent (closed d before after) (classes_given d (closed d before after))
        (plain_closing d w.2 before after)
        (classes_told d w.2.by_class (closed d before after))
        (subst (λ (x : Day). Demanded K t x (closing before after)) (sym w.1) (claim K opening w.0 (map call_of calls) (closing before after)))

-- the lowest and the highest Ldn
pub c_spread_law : CSpreadLaw
c_spread_law day opening e calls before after lent x seen =
    let w = whole day opening e calls in
    let d = day_from (words_of day opening calls) in
    let answered = closing_seen lent (closed d before after) (classes_given d (closed d before after)) (plain_closing d w.2 before after) in
    spread_law opening w.0 (map call_of calls) before after x (ap (λ (y : Day). closed y before after) (sym w.1) ∙ sym answered ∙ seen)

-- the level of a record that calls through C wrote is that of the closing
wrote_level : (d : ClosedDay) (n : ℕ) → Wrote d n → record_level n ≡ reading d.kept.level
wrote_level d n x =
    let w = whole x.day d.day.opening x.opens x.calls in
    let words = words_of x.day d.day.opening x.calls in
    let is : closed (day_from words) d.before d.after ≡ given d.closing =
    ap (λ (y : Day). closed y d.before d.after) (w.1 ∙ ap (day_after_calls (opened_day d.day.opening)) x.same) ∙ d.closes in
    let told = subst PlainClosing is (plain_closing (day_from words) w.2 d.before d.after) in
    let written : (close_leaves x.lent words d.before d.after).lent.day_record ≡ record_number d.closing.ldn d.closing.method = rw is in
    ap record_level (sym x.is ∙ written)
    ∙ (record_law d.closing.ldn d.closing.method told.0).0
    ∙ sym (ap (λ (r : DayReading). r.level) d.holds)

wrote_levels : (days : List ClosedDay) (records : List ℕ) → AllWrote days records → record_levels records ≡ readings (records_of days)
unfolding record_levels readings
wrote_levels [] [] h = refl
wrote_levels [] (n ∷ ns) h = absurd h
wrote_levels (d ∷ ds) [] h = absurd h
wrote_levels (d ∷ ds) (n ∷ ns) h = ap₂ ◌∷◌ (wrote_level d n h.0) (wrote_levels ds ns h.1)

-- means
mean_demanded : (fewest most K : ℕ) (days : List ClosedDay) (records : List ℕ) (lent : ℤ) → AllWrote days records → 0 < fewest → most ≤ 366
    → MeanDemanded fewest most K days (mean_of fewest most (readings (records_of days)))
    → MeanDemanded fewest most K days (mean_seen (leaves lent (mean_of fewest most (record_levels records)) level_number))
mean_demanded fewest most K days records lent h some few =
    subst (MeanDemanded fewest most K days)
    (ap (mean_of fewest most) (sym (wrote_levels days records h))
    ∙ sym (mean_seen_lem lent (mean_of fewest most (record_levels records)) (plain_mean fewest most (record_levels records) some few)))

pub c_mean_claim : CMeanClaim
unfolding CMeanClaim MeanClaim
c_mean_claim K days measured records h lent =
    let m = mean_claim K days measured in
    (mean_demanded 7 7 K days records lent h (lit< tt) (lit≤ tt) m.0, mean_demanded 1 366 K days records lent h (lit< tt) (lit≤ tt) m.1)

pub c_demand3 : CDemand3
unfolding CDemand3
c_demand3 = (c_claim, c_mean_claim)
