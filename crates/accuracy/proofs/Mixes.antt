-- The events of a day by class are a mix where the conditions of method two hold, and nowhere else.
use mathlib.Core.Path.{◌≡◌, refl, sym, ◌∙◌, subst}
use mathlib.Core.Bool.{true, false}
use mathlib.Core.Logic.{◌↔◌}
use mathlib.Core.List.{Mem}
use Prim.Native.Nat.{ℕ, ◌+◌, ◌*◌, ◌≤◌, ◌<◌}
use native.Mathlib.Omega.{arith}
use borrow.Author.Tests.{ltb-true, ltb-false, le-leb}
use lib.Dec.{leb, ltb}
use lib.ListN.{length, get_or, get_or-eq_default}
use Rattle.quantity.specs.Numbers.{distance}
use Rattle.quantity.proofs.Tests.{test, both}
use Rattle.ledger.specs.Book.{most_classes, sum_of}
use Rattle.ledger.proofs.Books.{both_at, both_length, both_sum}
use Rattle.method.specs.Method.{Counts, all_of, share_holds, shares_hold, method_two_holds}
use Rattle.method.specs.declared.Count.{Count}
use Rattle.method.proofs.Each.{shares_known, shares_shown}
use Rattle.method.proofs.Shares.{ShareHolds, share_known, share_shown}
use Rattle.mixes.specs.Mix.{mixes_of}
use Rattle.mixes.specs.Laws.{IsMix}
use Rattle.mixes.proofs.Once.{each_once}
use Rattle.accuracy.specs.Tally.{Tally, tally_class, tally_counts}
use Rattle.accuracy.specs.Mixes.{mix_of, IsMixByMethodTwo, MixLaw}
use Rattle.accuracy.proofs.Agreement.{Bounded}
use Rattle.accuracy.proofs.Claim.{always}
use Rattle.accuracy.proofs.Closings.{counts_same}

-- a class of no flights and no events has its share
no_flights : (all : Count) → share_holds all (record { flights = 0; events = 0 }) ≡ true
no_flights all = le-leb (20 * distance (0 * all.flights) (0 * all.events)) (all.flights * all.events) (omega arith)

module _ {t : Tally} (b : Bounded t) where
  abbrev all : Count
  all = all_of (tally_counts t).totals

  same_long : length (t.count true) ≡ length (t.count false)
  same_long = b.counted true ∙ sym (b.counted false)

  mix_sum : sum_of (mix_of t) ≡ sum_of (t.count true) + sum_of (t.count false)
  mix_sum = both_sum (t.count true) (t.count false) same_long

  mix_at : (k : ℕ) → k < length (t.book true) → get_or (mix_of t) k 0 ≡ get_or (t.count true) k 0 + get_or (t.count false) k 0
  mix_at k h = both_at (t.count true) (t.count false) k (omega (arith, b.counted true)) (omega (arith, b.counted false))

  share : (k : ℕ) → k < length (t.book true) → shares_hold all (tally_class t) most_classes ≡ true → ShareHolds all (tally_class t k)
  share k h s = share_known all (tally_class t k) (shares_known all (tally_class t) most_classes s k (omega (arith, b.most)))

  mix_shown : shares_hold all (tally_class t) most_classes ≡ true → IsMix (t.book true) (t.book false) (sum_of (mix_of t)) (mix_of t)
  mix_shown s =
      record {
        one_per_class = both_length (t.count true) (t.count false) same_long ∙ b.counted true;
        adds_up = refl;
        within_book = λ k h. rw (mix_at k h) (omega (arith, b.counts true k, b.counts false k));
        measured = λ k h. rw (mix_at k h) (share k h s).measured;
        shares = λ k h. rw (mix_sum, mix_at k h) (share k h s).near;
      }

  -- beyond the book there are no flights and no events
  beyond : (k : ℕ) → length (t.book true) ≤ k → share_holds all (tally_class t k) ≡ true
  beyond k h =
      rw (
        get_or-eq_default (t.book true) 0 {n = k} h,
        get_or-eq_default (t.book false) 0 {n = k} (omega (arith, b.booked false)),
        get_or-eq_default (t.count true) 0 {n = k} (omega (arith, b.counted true)),
        get_or-eq_default (t.count false) 0 {n = k} (omega (arith, b.counted false)),
      )
      (no_flights all)

  mix_known : IsMix (t.book true) (t.book false) (sum_of (mix_of t)) (mix_of t) → shares_hold all (tally_class t) most_classes ≡ true
  mix_known i = shares_shown all (tally_class t) most_classes (λ k _. test (ltb k (length (t.book true))) (inside k) (λ u. beyond k (ltb-false k _ u)))
    where
      inside : (k : ℕ) → ltb k (length (t.book true)) ≡ true → share_holds all (tally_class t k) ≡ true
      inside k u =
          let h = ltb-true k (length (t.book true)) u in
          share_shown all (tally_class t k) (record { measured = rw (mix_at k h) at (i.measured k h); near = rw (mix_sum, mix_at k h) at (i.shares k h) })

  on_tally : 1 ≤ sum_of (mix_of t)
      → Mem (mix_of t) (mixes_of (t.book true) (t.book false) (sum_of (mix_of t)))
      ↔ (method_two_holds (tally_counts t).totals (tally_class t) ≡ true)
  on_tally h =
      let some : leb 1 all.events ≡ true = le-leb 1 all.events (omega (arith, mix_sum)) in
      let each = (each_once (t.book true) (t.book false) (sum_of (mix_of t))).each (mix_of t) in
      (λ m. rw some (mix_known (each.0 m)), λ e. each.1 (mix_shown (both (leb 1 all.events) _ e).1))

pub mixes_closed : MixLaw
mixes_closed =
    always IsMixByMethodTwo (λ t b h.
    subst
    (λ (c : Counts).
    Mem (mix_of t) (mixes_of (t.book true) (t.book false) (sum_of (mix_of t)))
    ↔ (method_two_holds c.totals c.class ≡ true))
    (sym (counts_same b))
    (on_tally b h))
