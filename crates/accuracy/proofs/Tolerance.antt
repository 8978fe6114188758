-- Every day whose samples lie in their ranges has its Ldn between the lowest and the highest one: energies rise with each sample, and a level rises with its sum.
use mathlib.Core.Path.{◌≡◌, refl, sym, ap, ◌∙◌, subst}
use mathlib.Core.Bool.{Bool, true, false}
use mathlib.Core.List.{List, map}
use Prim.Native.Nat.{ℕ, ◌≤◌, ◌<◌}
use native.Mathlib.Nat.{add-le-add, mul-le-mul_left}
use Rattle.quantity.specs.Rules.{first_of, given}
use Rattle.quantity.specs.declared.Bound.{Bound}
use Rattle.quantity.specs.declared.Bound.TheVariants.{Lowest, Highest}
use Rattle.quantity.proofs.Outcomes.{given_value}
use Rattle.level.specs.Level.{NoHigher}
use Rattle.level.proofs.Answer.{level_rises}
use Rattle.clock.specs.declared.Settings.{Settings}
use Rattle.ledger.specs.Book.{sum_of}
use Rattle.ledger.specs.declared.Day.{Day}
use Rattle.closing.specs.Formula.{formula_by, level_by}
use Rattle.closing.specs.Close.{Closing, close_rules, closed}
use Rattle.closing.specs.declared.Formula.{Formula}
use Rattle.accuracy.specs.Tally.{Held, Tally, book_of, started, tally_counts, held_at}
use Rattle.accuracy.specs.Demand.{ldn_at}
use Rattle.accuracy.specs.Terminal.{tally_in}
use Rattle.accuracy.specs.Tolerance.{InRanges, with_samples, ldn_of, Between, Spread, SpreadLaw, SameButSamples, OtherDayLaw}
use Rattle.accuracy.proofs.Ranges.{all_recorded, with_recorded, all_ends, all_exact, Outside, not_above, not_below, outside_period, alike_in_ranges, alike_count, alike_energy}
use Rattle.accuracy.proofs.Agreement.{day_of_tally, Bounded}
use Rattle.accuracy.proofs.Closings.{tally_closing, tally_formula, formula_divides, closed_same}
use Rattle.accuracy.proofs.Claim.{always, agree, settings_in_tally, book_in_tally}

-- a level by a formula rises with the energies of both periods, so that at an end it lies on that side too
formula_rises : (f : Formula) {d n d' n' : ℕ} → 0 < f.divisor → d ≤ d' → n ≤ n' → NoHigher (level_by f d n) (level_by f d' n')
formula_rises f positive h g = level_rises f.offset f.divisor positive (add-le-add (mul-le-mul_left f.daytime h) (mul-le-mul_left f.night g))

from_lowest : (f : Formula) {d n d' n' : ℕ} → 0 < f.divisor → Outside Lowest d d' → Outside Lowest n n' → NoHigher (level_by f d n) (level_by f d' n')
from_lowest f positive (not_above h) (not_above g) = formula_rises f positive h g

to_highest : (f : Formula) {d n d' n' : ℕ} → 0 < f.divisor → Outside Highest d d' → Outside Highest n n' → NoHigher (level_by f d' n') (level_by f d n)
to_highest f positive (not_below h) (not_below g) = formula_rises f positive h g

-- what a tally is closed with
module _ {t : Tally} (b : Bounded t) (positive : 0 < (tally_formula t).divisor) where
  abbrev hs : List Held
  hs = t.stretches

  the_ends : (bound : Bound) → ldn_at bound (tally_closing t) ≡ ldn_of t (map (held_at bound) hs)
  the_ends Lowest = refl
  the_ends Highest = refl

  in_between : (samples : List (List ℕ)) → InRanges hs samples → Between (tally_closing t) (ldn_of t (with_samples hs samples))
  in_between samples r =
      let f = tally_formula t in (
        from_lowest f positive (outside_period Lowest true hs samples r) (outside_period Lowest false hs samples r),
        to_highest f positive (outside_period Highest true hs samples r) (outside_period Highest false hs samples r),
      )

  as_recorded : Between (tally_closing t) (tally_closing t).ldn
  as_recorded =
      subst (λ (ks : List Held). Between (tally_closing t) (ldn_of t ks)) (with_recorded hs) (in_between (map (λ h. h.levels) hs) (all_recorded hs b.low))

  tally_spread : Spread t (tally_closing t)
  tally_spread =
      record {
        ends = the_ends;
        between = in_between;
        recorded = as_recorded;
        reached = λ bound. all_ends bound hs b.low;
        exact = λ none bound. the_ends bound ∙ ap (ldn_of t) (all_exact bound hs b.low none);
      }

-- a closing that is not refused is the tally's
known : {t : Tally} → Bounded t → (before after : ℕ) {x : Closing} → closed (day_of_tally t) before after ≡ given x
    → (first_of (close_rules before after (tally_counts t)) ≡ 0) × (tally_closing t ≡ x)
known {t} b before after h = given_value (first_of (close_rules before after (tally_counts t))) (sym (closed_same b before after) ∙ h)

closed_spread : (t : Tally) → Bounded t → (before after : ℕ) (x : Closing) → closed (day_of_tally t) before after ≡ given x → Spread t x
closed_spread t b before after x h =
    let k = known b before after h in
    subst (Spread t) k.1 (tally_spread b (formula_divides t before after k.0))

pub spread_law : SpreadLaw
spread_law = always (λ t day. (before after : ℕ) (x : Closing) → closed day before after ≡ given x → Spread t x) closed_spread

-- another day with samples in the ranges: its formula is the same, and its energies are those of the day with these samples
module _ {t s : Tally} (b : Bounded t) (c : Bounded s) (rate : s.settings.rate ≡ t.settings.rate) (book : (p : Bool) → s.book p ≡ t.book p)
    (same : SameButSamples t.stretches s.stretches) (method : (tally_closing s).method ≡ (tally_closing t).method) where
  same_events : (p : Bool) → sum_of (s.count p) ≡ sum_of (t.count p)
  same_events p = c.counting p ∙ alike_count p t.stretches s.stretches same ∙ sym (b.counting p)

  same_formula : tally_formula s ≡ tally_formula t
  same_formula = λ i.
      formula_by (rate i) (method i)
      (record {
        daytime = record { flights = sum_of (book true i); events = same_events true i };
        night = record { flights = sum_of (book false i); events = same_events false i };
      })

  same_ldn : (tally_closing s).ldn ≡ ldn_of t (with_samples t.stretches (map (λ k. k.levels) s.stretches))
  same_ldn = λ i. level_by (same_formula i) (alike_energy true t.stretches s.stretches same i) (alike_energy false t.stretches s.stretches same i)

  other_between : 0 < (tally_formula t).divisor → Between (tally_closing t) (tally_closing s).ldn
  other_between positive =
      rw same_ldn (in_between b positive (map (λ k. k.levels) s.stretches) (alike_in_ranges t.stretches s.stretches same))

pub other_day_law : OtherDayLaw
other_day_law d other alike before after other_before other_after x y closes closes_other method =
    let a = agree d.opening d.opens d.calls in
    let o = agree other.opening other.opens other.calls in
    let k = known a.bounded before after (ap (λ (day : Day). closed day before after) (sym a.same) ∙ closes) in
    let l = known o.bounded other_before other_after (ap (λ (day : Day). closed day other_before other_after) (sym o.same) ∙ closes_other) in
    let book : (p : Bool) → (tally_in other).book p ≡ (tally_in d).book p = λ p.
    book_in_tally (started other.opening) other.calls p
    ∙ (λ i. book_of (alike.daytime i) (alike.night i) p)
    ∙ sym (book_in_tally (started d.opening) d.calls p) in
    let rate : (tally_in other).settings.rate ≡ (tally_in d).settings.rate =
    ap (λ (c : Settings). c.rate) (settings_in_tally (started other.opening) other.calls)
    ∙ alike.rate
    ∙ sym (ap (λ (c : Settings). c.rate) (settings_in_tally (started d.opening) d.calls)) in
    let same : (tally_closing (tally_in other)).method ≡ (tally_closing (tally_in d)).method =
    ap (λ (c : Closing). c.method) l.1 ∙ method ∙ sym (ap (λ (c : Closing). c.method) k.1) in
    rw (← k.1, ← l.1) (other_between a.bounded o.bounded rate book alike.stretches same (formula_divides (tally_in d) before after k.0))
