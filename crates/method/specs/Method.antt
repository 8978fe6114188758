-- Document 01, 'Day': the numbers of flights and of accepted events, and the method that they choose.
use Rattle.std.specs.Prelude.{Bool, true, ◌&&◌, ◌||◌, not, cond, [], ◌∷◌, ℕ, zero, suc, ◌+◌, ◌-◌, ◌*◌, leb, eqb, get_or, Result}
use Rattle.quantity.specs.Answers.{method_number, outcome_of}
use Rattle.quantity.specs.Numbers.{distance}
use Rattle.quantity.specs.Rules.{Rule, first_of, Outcome, outcome}
use Rattle.quantity.specs.declared.Method.{Method}
use Rattle.quantity.specs.declared.Refusal.{Refusal}
use Rattle.ledger.specs.Book.{most_classes, sum_of}
use Rattle.ledger.specs.declared.Period.{Period}
use Rattle.ledger.specs.declared.Day.{Day}
use Rattle.method.specs.declared.Count.{Count}
use Rattle.method.specs.declared.Totals.{Totals}

-- the flights of the book and the accepted events in two periods together
abbrev pub both_of : Count → Count → Count
both_of a b = record { flights = a.flights + b.flights; events = a.events + b.events }

-- N and N', of Nd, Nn, Nd' and Nn'
abbrev pub all_of : Totals → Count
all_of t = both_of t.daytime t.night

-- what the choice depends on: the number of classes of the book, Nd, Nn, Nd' and Nn', and nk and n'k of each class k
pub record Counts : Type 0 where
  pub classes : ℕ
  pub totals : Totals
  pub class : ℕ → Count

-- at most a tenth of a period's flights are missing
abbrev pub few_missing : Count → Bool
few_missing c = leb (10 * (c.flights - c.events)) c.flights

-- method one: by day and by night apart
abbrev pub method_one_holds : Totals → Bool
method_one_holds t = few_missing t.daytime && few_missing t.night

-- a class with flights has an accepted event
abbrev pub is_measured : Count → Bool
is_measured c = eqb c.flights 0 || leb 1 c.events

-- and its share of the events differs from that of the flights by five points at the most (house)
abbrev pub share_holds : Count → Count → Bool
share_holds all c =
    is_measured c && leb (20 * distance (c.events * all.flights) (c.flights * all.events)) (all.flights * all.events)

-- each of the first k classes
unfoldable pub shares_hold : Count → (ℕ → Count) → ℕ → Bool
shares_hold all class zero = true
shares_hold all class (suc k) = share_holds all (class k) && shares_hold all class k

-- any condition on each of the first k classes
unfoldable pub on_each_class : (Count → Bool) → (ℕ → Count) → ℕ → Bool
on_each_class holds class zero = true
on_each_class holds class (suc k) = holds (class k) && on_each_class holds class k

-- method two: an accepted event, and the condition on each class
abbrev pub method_two_holds : Totals → (ℕ → Count) → Bool
method_two_holds t class = leb 1 (all_of t).events && shares_hold (all_of t) class most_classes

-- 12: neither method's conditions hold; without a book there are none
abbrev pub has_method : Counts → Bool
has_method c = not (eqb c.classes 0) && (method_one_holds c.totals || method_two_holds c.totals c.class)

-- method one where its conditions hold, else method two
abbrev pub method_by : Counts → ℕ
method_by c = cond (method_one_holds c.totals) 1 2

abbrev pub method_rule : Counts → Rule
method_rule c = record { number = 12; refuses = not (has_method c) }

abbrev pub method_of : Counts → Outcome ℕ
method_of c = outcome (first_of (method_rule c ∷ [])) (method_by c)

abbrev pub method_outcome : Result Method Refusal → Outcome ℕ
method_outcome = outcome_of method_number

-- a day's numbers
abbrev pub count_of : Period → Count
count_of p = record { flights = sum_of p.booked; events = sum_of p.accepted }

abbrev pub totals_of : Day → Totals
totals_of day = record { daytime = count_of day.daytime; night = count_of day.night }

abbrev pub class_count : Day → ℕ → Count
class_count day k =
    record {
      flights = get_or day.daytime.booked k 0 + get_or day.night.booked k 0;
      events = get_or day.daytime.accepted k 0 + get_or day.night.accepted k 0;
    }

abbrev pub counts_of : Day → Counts
counts_of day = record { classes = day.classes; totals = totals_of day; class = class_count day }
