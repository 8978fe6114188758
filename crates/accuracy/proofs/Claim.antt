-- Demand 3 for offers and closings, over every list of calls, and the laws beside it.
use mathlib.Core.Path.{◌≡◌, refl, sym, ap, ◌∙◌, subst}
use mathlib.Core.Bool.{Bool}
use mathlib.Core.List.{List, [], ◌∷◌}
use Prim.Native.Nat.{ℕ, zero, suc, ◌≤◌}
use Rattle.quantity.specs.Rules.{first_of, outcome, follow}
use Rattle.ledger.specs.declared.Day.{Day}
use Rattle.admission.specs.Checks.{Offering}
use Rattle.accuracy.specs.Tally.{Call, offering, closing, Tally, started, tally_of, tallied, tally_checks, joined}
use Rattle.accuracy.specs.Terminal.{day_after_calls, day_after}
use Rattle.accuracy.specs.Demand.{Demanded, Claim}
use Rattle.accuracy.specs.Laws.{Always, SettingsKept, Apart, WithinReach, holders, WithinBook, Highest}
use Rattle.accuracy.proofs.Held.{at_most_one}
use Rattle.accuracy.proofs.Highest.{highest_of_tally}
use Rattle.accuracy.proofs.Agreement.{day_of_tally, Bounded, Agrees, fresh, period_of_tally_lem, book_at, count_at, sum_whole, bound_whole}
use Rattle.accuracy.proofs.Offers.{offer_keeps, offer_demanded}
use Rattle.accuracy.proofs.Closings.{close_demanded}

-- each call keeps the agreement
call_keeps : {t : Tally} → Bounded t → (call : Call) → Agrees (tallied t call) (day_after (day_of_tally t) call)
call_keeps b (offering o) = offer_keeps b o
call_keeps b (closing before after) = record { same = refl; bounded = b }

pub keeps : {t : Tally} {day : Day} → Agrees t day → (call : Call) → Agrees (tallied t call) (day_after day call)
keeps {t} a call = subst (λ (day : Day). Agrees (tallied t call) (day_after day call)) (sym a.same) (call_keeps a.bounded call)

keep : {t : Tally} {day : Day} → Agrees t day → (calls : List Call) → Agrees (tally_of t calls) (day_after_calls day calls)
keep a [] = a
keep {t = t} {day = day} a (c ∷ cs) = keep {t = tallied t c} {day = day_after day c} (keeps a c) cs

pub agree : Always Agrees
agree o h calls = keep (fresh o h) calls

-- what no offer changes stays over all calls: the settings and the book are those of the opening
module _ {A : Type 0} (part : Tally → A) (same : (t : Tally) (o : Offering) → part (joined t o) ≡ part t) where
  after_call : (t : Tally) (call : Call) → part (tallied t call) ≡ part t
  after_call t (closing before after) = refl
  after_call t (offering o) = by_number (first_of (tally_checks t o))
    where
      by_number : (n : ℕ) → part (follow (outcome n (joined t o)) (λ k. t) (λ next. next)) ≡ part t
      by_number zero = same t o
      by_number (suc n) = refl

  kept_in_tally : (t : Tally) (calls : List Call) → part (tally_of t calls) ≡ part t
  kept_in_tally t [] = refl
  kept_in_tally t (c ∷ cs) = kept_in_tally (tallied t c) cs ∙ after_call t c

pub settings_in_tally : (t : Tally) (calls : List Call) → (tally_of t calls).settings ≡ t.settings
settings_in_tally = kept_in_tally (λ t. t.settings) (λ t o. refl)

pub book_in_tally : (t : Tally) (calls : List Call) (p : Bool) → (tally_of t calls).book p ≡ t.book p
book_in_tally t calls p = kept_in_tally (λ t. t.book p) (λ t o. refl) t calls

pub settings_kept : SettingsKept
settings_kept o h calls = ap (λ (day : Day). day.settings) (agree o h calls).same ∙ settings_in_tally (started o) calls

-- so what holds of a bounded tally and the day that it gives holds always
pub always : (P : Tally → Day → Type 0) → ((t : Tally) → Bounded t → P t (day_of_tally t)) → Always P
always P holds o h calls =
    let a = agree o h calls in
    subst (P (tally_of (started o) calls)) (sym a.same) (holds _ a.bounded)

call_demanded : (K : ℕ) (t : Tally) → Bounded t → (call : Call) → Demanded K t (day_of_tally t) call
call_demanded K t b (offering o) = offer_demanded b o K
call_demanded K t b (closing before after) = close_demanded b before after K

-- no count passes the book, and no sum wraps
pub within_book : Always WithinBook
within_book =
    always WithinBook (λ t b.
    record {
      counts = λ p class. rw (period_of_tally_lem t p) (count_at b p class);
      booked = λ p class. rw (period_of_tally_lem t p, book_at b p class, count_at b p class) (b.counts p class);
      sums = λ p. rw (period_of_tally_lem t p) (sum_whole b p);
      ends = λ bound p. rw (period_of_tally_lem t p) (bound_whole b p bound);
    })

-- the stretches lie within reach of the day and apart, and no instant is counted twice
pub within_reach : Always (λ t day. WithinReach t.settings.rate t.stretches)
within_reach o h calls = (agree o h calls).bounded.within

pub apart : Always (λ t day. Apart t.end t.stretches)
apart o h calls = (agree o h calls).bounded.apart

pub counted_once : (instant : ℕ) → Always (λ t day. holders instant t.stretches ≤ 1)
counted_once instant o h calls =
    let t = tally_of (started o) calls in
    at_most_one instant t.end t.stretches (apart o h calls)

-- the day's highest levels are those of the stretches
pub highest_held : Always Highest
highest_held = always Highest (λ t b. highest_of_tally b)

-- demand 3 for offers and closings
pub claim : Claim
unfolding Claim
claim K = always (λ t day. (call : Call) → Demanded K t day call) (call_demanded K)
