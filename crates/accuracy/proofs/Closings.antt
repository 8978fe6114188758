-- A closing: the day's counts and sums are the tally's, and its level has both bounds.
use mathlib.Core.Path.{◌≡◌, refl, sym, subst}
use mathlib.Core.Bool.{Bool, true, false, cond}
use mathlib.Core.List.{List, map}
use Prim.Native.Nat.{ℕ, zero, suc, ◌+◌, ◌<◌}
use native.Mathlib.Omega.{arith}
use borrow.Author.Rules.{rules}
use borrow.Author.Tests.{not-false}
use Rattle.quantity.specs.Answers.{Reading, highest_reading}
use Rattle.quantity.specs.Rules.{first_of, Outcome, outcome}
use Rattle.quantity.specs.declared.Bound.{Bound}
use Rattle.quantity.specs.declared.Bound.TheVariants.{Lowest, Highest}
use Rattle.quantity.proofs.Refusing.{pass}
use Rattle.level.specs.Accuracy.{Accurate}
use Rattle.level.proofs.Bounds.{accurate}
use Rattle.method.specs.Method.{Counts, counts_of, method_by}
use Rattle.closing.specs.Formula.{formula_by, level_by}
use Rattle.closing.specs.Close.{Closing, close_rules, closed, classes_given}
use Rattle.closing.specs.declared.Formula.{Formula}
use Rattle.closing.proofs.Answers.{divisor_positive}
use Rattle.accuracy.specs.Tally.{Held, Tally, tally_counts, held_at, held_samples}
use Rattle.accuracy.specs.Demand.{ldn_at, CloseDemanded}
use Rattle.accuracy.specs.Laws.{period_energy}
use Rattle.accuracy.proofs.Sums.{weighted_held}
use Rattle.accuracy.proofs.Highest.{highest_of_tally}
use Rattle.accuracy.proofs.Agreement.{highest_of_stretches, day_of_tally, Bounded, book_at, count_at, book_sum, count_sum, sum_whole, bound_whole}

-- the numbers that choose the method are the tally's
pub counts_same : {t : Tally} → Bounded t → counts_of (day_of_tally t) ≡ tally_counts t
counts_same {t} b = λ i.
    record {
      classes = (tally_counts t).classes;
      totals =
          record {
            daytime = record { flights = book_sum b true i; events = count_sum b true i };
            night = record { flights = book_sum b false i; events = count_sum b false i };
          };
      class = λ k.
          record {
            flights = book_at b true k i + book_at b false k i;
            events = count_at b true k i + count_at b false k i;
          };
    }

-- what closing gives, by the counts and the energies of the periods, recorded and at both ends; and with the tally's counts and energies
abbrev closing_with : Tally → Counts → (S : Bool → ℕ) (E : Bound → Bool → ℕ) → Closing
closing_with t c S E =
    let f = formula_by t.settings.rate (method_by c) c.totals in
    record {
      ldn = level_by f (S true) (S false);
      lowest_ldn = level_by f (E Lowest true) (E Lowest false);
      highest_ldn = level_by f (E Highest true) (E Highest false);
      method = method_by c;
      day_events = c.totals.daytime.events;
      night_events = c.totals.night.events;
      highest = highest_reading (highest_of_stretches t.stretches);
    }

abbrev pub tally_closing : Tally → Closing
tally_closing t =
    closing_with t (tally_counts t) (λ p. period_energy p t.stretches) (λ bound p. period_energy p (map (held_at bound) t.stretches))

abbrev pub tally_answer : Tally → ℕ → Outcome Closing
tally_answer t n = outcome n (tally_closing t)

-- the formula by which a tally is closed; where no rule refuses, it divides by a number above 0
abbrev pub tally_formula : Tally → Formula
tally_formula t = let c = tally_counts t in formula_by t.settings.rate (method_by c) c.totals

pub formula_divides : (t : Tally) (before after : ℕ) → first_of (close_rules before after (tally_counts t)) ≡ 0 → 0 < (tally_formula t).divisor
formula_divides t before after h =
    divisor_positive t.settings.rate (tally_counts t) (not-false _ (pass (close_rules before after (tally_counts t)) (search rules) h).1.0)

-- both bounds of the level of any stretches by a formula
abbrev HeldAccurate : ℕ → Formula → List Held → Reading → Type 0
HeldAccurate K f hs = Accurate 1 1 f.offset K f.divisor (held_samples (λ p. cond p f.daytime f.night) hs)

held_accurate : (K : ℕ) (f : Formula) → 0 < f.divisor → (hs : List Held) → HeldAccurate K f hs (level_by f (period_energy true hs) (period_energy false hs))
held_accurate K f positive hs =
    let weight : Bool → ℕ = λ p. cond p f.daytime f.night in
    rw (weighted_held weight hs) at (accurate K (held_samples weight hs) f.offset f.divisor positive)

ends_accurate : (K : ℕ) (t : Tally) → 0 < (tally_formula t).divisor → (bound : Bound)
    → HeldAccurate K (tally_formula t) (map (held_at bound) t.stretches) (ldn_at bound (tally_closing t))
ends_accurate K t positive Lowest = held_accurate K (tally_formula t) positive (map (held_at Lowest) t.stretches)
ends_accurate K t positive Highest = held_accurate K (tally_formula t) positive (map (held_at Highest) t.stretches)

module _ {t : Tally} (b : Bounded t) (before after : ℕ) where
  pub closed_same : closed (day_of_tally t) before after ≡ tally_answer t (first_of (close_rules before after (tally_counts t)))
  closed_same = λ i.
      outcome (first_of (close_rules before after (counts_same b i))) (closing_with t (counts_same b i) (λ p. sum_whole b p i) (λ bound p. bound_whole b p bound i))

  abbrev AnswerDemanded : ℕ → Outcome Closing → Type 0
  AnswerDemanded K r = CloseDemanded K t before after r (classes_given (day_of_tally t) r)

  pub close_demanded : (K : ℕ) → AnswerDemanded K (closed (day_of_tally t) before after)
  close_demanded K = subst (AnswerDemanded K) (sym closed_same) (by_number (first_of (close_rules before after (tally_counts t))) refl)
    where
      by_number : (n : ℕ) → first_of (close_rules before after (tally_counts t)) ≡ n → AnswerDemanded K (tally_answer t n)
      by_number zero h =
          let highest = highest_of_tally b in
          let positive = formula_divides t before after h in (
            h,
            refl,
            refl,
            refl,
            highest.single,
            highest.by_class,
            highest.largest_of_all,
            held_accurate K (tally_formula t) positive t.stretches,
            ends_accurate K t positive,
          )
      by_number (suc n) h = (h, omega arith)
