-- What closing answers, by the drift of the calibration and the method that the counts choose.
use mathlib.Core.Path.{◌≡◌, sym, ap, ◌∙◌}
use mathlib.Core.Bool.{true, false, not, ◌||◌}
use mathlib.Core.List.{[], ◌∷◌}
use Prim.Native.Nat.{ℕ, ◌<◌}
use native.Mathlib.Nat.{mul-pos}
use borrow.Author.Rules.{rules}
use borrow.Author.Tests.{not-false, leb-true}
use lib.Dec.{leb, ltb, eqb}
use Rattle.std.specs.Prelude.{Result, Ok}
use Rattle.quantity.specs.Answers.{highest_reading, method_number}
use Rattle.quantity.specs.declared.Method.{Method}
use Rattle.quantity.specs.declared.Refusal.{Refusal}
use Rattle.quantity.specs.Numbers.{distance}
use Rattle.quantity.specs.declared.Bound.TheVariants.{Lowest, Highest}
use Rattle.quantity.specs.Rules.{first_of, refused, given}
use Rattle.quantity.proofs.Outcomes.{given_value, refused_alike, given_alike}
use Rattle.quantity.proofs.Refusing.{skip, stop, pass}
use Rattle.quantity.proofs.Tests.{test, both}
use Rattle.clock.specs.declared.Rate.{Rate}
use Rattle.clock.proofs.Rates.{rate_positive, ticks_positive}
use Rattle.ledger.specs.Book.{most_classes}
use Rattle.ledger.specs.Day.{energy_in}
use Rattle.ledger.specs.declared.Day.{Day}
use Rattle.method.specs.Method.{Counts, all_of, shares_hold, method_one_holds, method_two_holds, has_method, method_by, method_rule, method_of, totals_of, counts_of, method_outcome}
use Rattle.method.specs.declared.Totals.{Totals}
use Rattle.closing.specs.Formula.{formula_by, level_by}
use Rattle.closing.specs.declared.Formula.{Formula}
use Rattle.closing.specs.Close.{largest_drift, level_at_bound, close_rules, closing_of, closed}

-- a formula that is used divides by a number above 0
pub divisor_positive : (rate : Rate) (c : Counts) → has_method c ≡ true → 0 < (formula_by rate (method_by c) c.totals).divisor
divisor_positive rate c h =
    let held = (both (not (eqb c.classes 0)) (method_one_holds c.totals || method_two_holds c.totals c.class) h).1 in
    let all = all_of c.totals in
    test (method_one_holds c.totals)
    (λ t. rw t (ticks_positive rate))
    (λ f. rw f
    (mul-pos (rate_positive rate) (leb-true 1 all.events (both (leb 1 all.events) (shares_hold all c.class most_classes) (rw f at held)).0)))

-- the formula of the method that the numbers of a day choose
pub divides : (day : Day) {a : Result Method Refusal} {m : Method} {t : Totals} {f : Formula}
    → a ≡ Ok m
    → f ≡ formula_by day.settings.rate (method_number m) t
    → (t ≡ totals_of day) × (method_outcome a ≡ method_of (counts_of day))
    → 0 < f.divisor
divides day e r told =
    let c = counts_of day in
    let g = given_value (first_of (method_rule c ∷ [])) (sym told.1 ∙ ap method_outcome e) in
    rw (r, told.0, ← g.1) (divisor_positive day.settings.rate c (not-false _ (pass (method_rule c ∷ []) (search rules) g.0).0))

-- 11
pub drifted : (day : Day) (before after : ℕ) → ltb largest_drift (distance before after) ≡ true → refused 11 ≡ closed day before after
drifted day before after h =
    let z : first_of (close_rules before after (counts_of day)) ≡ 11 = stop _ _ h in
    rw z

-- no drift: 12, or the closing by the method
module _ (day : Day) (before after : ℕ) (steady : ltb largest_drift (distance before after) ≡ false) where
  left_rules : first_of (close_rules before after (counts_of day)) ≡ first_of (method_rule (counts_of day) ∷ [])
  left_rules = skip _ _ steady

  pub no_method : {k : ℕ} → method_of (counts_of day) ≡ refused k → refused k ≡ closed day before after
  no_method e =
      let c = counts_of day in
      rw left_rules (sym (refused_alike (first_of (method_rule c ∷ [])) (method_by c) (closing_of day) e))

  pub by_method : {m : ℕ} → method_of (counts_of day) ≡ given m → {f : Formula} → f ≡ formula_by day.settings.rate m (totals_of day)
      → given (record {
        ldn = level_by f (energy_in day.daytime) (energy_in day.night);
        lowest_ldn = level_at_bound Lowest f day;
        highest_ldn = level_at_bound Highest f day;
        method = m;
        day_events = (totals_of day).daytime.events;
        night_events = (totals_of day).night.events;
        highest = highest_reading day.highest;
      })
      ≡ closed day before after
  by_method e r =
      let c = counts_of day in
      let m = (given_value (first_of (method_rule c ∷ [])) e).1 in
      rw (left_rules, given_alike (first_of (method_rule c ∷ [])) (method_by c) (closing_of day) e, r, ← m)
