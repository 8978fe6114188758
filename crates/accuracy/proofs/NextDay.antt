-- A peak lies in one day alone. Days in a row: a stretch of a later day begins where those of the days before have ended.
use Rattle.std.specs.Prelude as std
use Rattle.std.specs.Prelude.{Some, None}
use mathlib.Core.Path.{◌≡◌, refl, ap}
use mathlib.Core.List.{List, [], ◌∷◌, ◌++◌, map}
use Prim.Native.Nat.{ℕ, zero, suc, ◌+◌, ◌-◌, ◌≤◌, zero-le}
use native.Mathlib.Omega.{arith}
use Rattle.quantity.specs.Lists.{Each}
use Rattle.quantity.specs.Rules.{first_of, outcome, follow}
use Rattle.quantity.specs.declared.Level.{Level}
use Rattle.quantity.proofs.Lists.{each_map}
use Rattle.clock.specs.Clock.{samples_a_second, day_ticks, earliest_start, latest_end}
use Rattle.clock.specs.declared.Rate.{Rate}
use Rattle.clock.proofs.Rates.{rate_most}
use Rattle.event.proofs.Whole.{in_window}
use Rattle.ledger.specs.Day.{end_counted, end_for_next_day}
use Rattle.offering.specs.Offer.{raised}
use Rattle.accuracy.specs.Tally.{Call, offering, closing, Held, Tally, started, tally_of, tallied, tally_checks, joined}
use Rattle.accuracy.specs.Terminal.{CalledDay, day_of, tally_in, held_in, rate_in}
use Rattle.accuracy.specs.Laws.{Always, Apart, WithinReach}
use Rattle.accuracy.specs.NextDay.{on_day_before, OneDayLaw, IsEndAfter, GivesEnd, InRow, later, held_in_row, end_of_row, RowLaw}
use Rattle.accuracy.proofs.Held.{at_most_one, last_end, last_within, apart_later, apart_last}
use Rattle.accuracy.proofs.Windows.{admits}
use Rattle.accuracy.proofs.Agreement.{highest_of_stretches, EndsWith, Bounded}
use Rattle.accuracy.proofs.Claim.{agree, always, settings_in_tally}

pub one_day_law : OneDayLaw
one_day_law rate o unbooked unbooked_before end end_before used used_before h g =
    let now = (admits rate o unbooked end used h).inside.peak_from in
    let before = (admits rate (on_day_before rate o) unbooked_before end_before used_before g).inside.peak_before in
    omega arith

-- a highest level that was raised is there
counted_end : (highest : std.Option Level) (l : Level) (rate : Rate) (end : ℕ) → end_counted (raised highest l) rate end ≡ end - day_ticks rate
counted_end None l rate end = refl
counted_end (Some h) l rate end = refl

given_end : (rate : Rate) (end : ℕ) (hs : List Held) → EndsWith end hs → Apart end hs → WithinReach rate hs
    → IsEndAfter rate hs (end_counted (highest_of_stretches hs) rate end)
given_end rate end [] l a w = refl
given_end rate end (h ∷ hs) l a w = rw (counted_end (highest_of_stretches hs) _ rate end) (omega (arith, l, a.1, w.0.0, rate_most rate))

-- the end that a day gives is that of its last stretch
pub gives_end : Always GivesEnd
gives_end = always GivesEnd (λ t b. given_end t.settings.rate t.end t.stretches b.last b.apart b.within)

-- each stretch begins at the end that the day was opened with, or later
record Since (end : ℕ) (t : Tally) : Type 0 where
  reached : end ≤ t.end
  each : Each (λ h. end ≤ h.from) t.stretches

since_call : {end : ℕ} {t : Tally} → Since end t → (call : Call) → Since end (tallied t call)
since_call s (closing before after) = s
since_call {end} {t} s (offering o) = by_number (first_of (tally_checks t o)) refl
  where
    by_number : (n : ℕ) → first_of (tally_checks t o) ≡ n → Since end (follow (outcome n (joined t o)) (λ k. t) (λ next. next))
    by_number (suc n) h = s
    by_number zero h =
        let after = (admits t.settings.rate o _ t.end _ h).after in
        record {
          reached = omega (arith, after, s.reached, (in_window o.samples).first);
          each = (omega (arith, after, s.reached), s.each);
        }

since_calls : {end : ℕ} {t : Tally} → Since end t → (calls : List Call) → Since end (tally_of t calls)
since_calls s [] = s
since_calls {end = end} {t = t} s (c ∷ cs) = since_calls {end = end} {t = tallied t c} (since_call s c) cs

-- what is known of the stretches of a day
module _ (d : CalledDay) where
  bounded : Bounded (tally_in d)
  bounded = (agree d.opening d.opens d.calls).bounded

  same_rate : (tally_in d).settings.rate ≡ rate_in d
  same_rate = ap (λ s. s.rate) (settings_in_tally (started d.opening) d.calls)

  within : WithinReach (rate_in d) (held_in d)
  within = rw same_rate at bounded.within

  early : Each (λ h. earliest_start (rate_in d) ≤ h.from) (held_in d)
  early = each_map (λ h w. w.0) (held_in d) within

  since : Each (λ h. d.opening.end ≤ h.from) (held_in d)
  since = (since_calls {end = d.opening.end} {t = started d.opening} (record { reached = omega arith; each = tt }) d.calls).each

  ends : IsEndAfter (rate_in d) (held_in d) (end_for_next_day (day_of d)).0
  ends = rw same_rate at (gives_end d.opening d.opens d.calls)

-- the end that is given, counted from midnight again, is no earlier than the last stretch, and no later than the earliest start of the day after
given_between : (rate : Rate) (end : ℕ) (hs : List Held) → IsEndAfter rate hs end → WithinReach rate hs
    → (last_end hs ≤ day_ticks rate + end) × (end ≤ day_ticks rate + earliest_start rate)
given_between rate end [] g w = (zero-le, omega (arith, g))
given_between rate end (h ∷ hs) g w = (omega (arith, g), omega (arith, g, w.0.1, rate_most rate))

-- the same list, so many ticks later
each_later : (ticks m : ℕ) (hs : List Held) → Each (λ h. m ≤ h.from) hs → Each (λ h. ticks + m ≤ h.from) (map (later ticks) hs)
each_later ticks m [] e = tt
each_later ticks m (h ∷ hs) e = (omega (arith, e.0), each_later ticks m hs e.1)

apart_shifted : (ticks end : ℕ) (hs : List Held) → Apart end hs → Apart (ticks + end) (map (later ticks) hs)
apart_shifted ticks end [] a = tt
apart_shifted ticks end (h ∷ hs) a = (omega (arith, a.0), omega (arith, a.1), apart_shifted ticks h.from hs a.2)

-- stretches that begin where others have ended
each_append : (P : Held → Type 0) (xs ys : List Held) → Each P xs → Each P ys → Each P (xs ++ ys)
each_append P [] ys p q = q
each_append P (x ∷ xs) ys p q = (p.0, each_append P xs ys p.1 q)

apart_append : (end m : ℕ) (xs ys : List Held) → Apart end xs → Each (λ h. m ≤ h.from) xs → m ≤ end → Apart m ys → Apart end (xs ++ ys)
apart_append end m [] ys a e l b = apart_later ys l b
apart_append end m (x ∷ xs) ys a e l b = (a.0, a.1, apart_append x.from m xs ys a.2 e.1 e.0 b)

-- a row of days begins no earlier than its first day and the earliest start of the second
row_begins : (m : ℕ) (d : CalledDay) (ds : List CalledDay) → InRow d ds → Each (λ h. m ≤ h.from) (held_in d) → m ≤ day_ticks (rate_in d) + earliest_start (rate_in d)
    → Each (λ h. m ≤ h.from) (held_in_row d ds)
row_begins m d [] r own l = own
row_begins m d (n ∷ ns) r own l =
    let rest = row_begins (earliest_start (rate_in n)) n ns r.2 (early n) (omega arith) in
    let same = ap samples_a_second r.1 in
    each_append (λ h. m ≤ h.from) (map (later (day_ticks (rate_in d))) (held_in_row n ns)) (held_in d)
    (each_map (λ h e. omega (arith, e, l, same)) (map (later (day_ticks (rate_in d))) (held_in_row n ns))
    (each_later (day_ticks (rate_in d)) (earliest_start (rate_in n)) (held_in_row n ns) rest))
    own

row_ends : (d : CalledDay) (ds : List CalledDay) → InRow d ds → latest_end (rate_in d) ≤ end_of_row d ds
row_ends d [] r = omega arith
row_ends d (n ∷ ns) r = omega (arith, row_ends n ns r.2, ap samples_a_second r.1)

apart_row : (d : CalledDay) (ds : List CalledDay) → InRow d ds → Apart (end_of_row d ds) (held_in_row d ds)
apart_row d [] r = apart_later (held_in d) (last_within (rate_in d) (held_in d) (within d)) (apart_last _ (held_in d) (bounded d).apart)
apart_row d (n ∷ ns) r =
    let ticks = day_ticks (rate_in d) in
    let rest = held_in_row n ns in
    let g = given_between (rate_in d) _ (held_in d) (ends d) (within d) in
    let same = ap samples_a_second r.1 in
    let begun = row_begins n.opening.end n ns r.2 (since n) (omega (arith, g.1, r.0, same)) in
    apart_append (end_of_row d (n ∷ ns)) (last_end (held_in d)) (map (later ticks) rest) (held_in d)
    (apart_shifted ticks (end_of_row n ns) rest (apart_row n ns r.2))
    (each_map (λ h e. omega (arith, e, g.0, r.0)) (map (later ticks) rest) (each_later ticks n.opening.end rest begun))
    (omega (arith, last_within (rate_in d) (held_in d) (within d), row_ends n ns r.2, same))
    (apart_last _ (held_in d) (bounded d).apart)

pub row_law : RowLaw
row_law d ds r = let a = apart_row d ds r in (a, λ instant. at_most_one instant (end_of_row d ds) (held_in_row d ds) a)
