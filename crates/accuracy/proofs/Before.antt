-- At the settings of document 01 every answer is formed by its numbers: each of them is what the settings compute to.
use mathlib.Core.Path.{refl, ap}
use mathlib.Core.List.{List}
use Prim.Native.Nat.{ℕ}
use Rattle.quantity.specs.Rules.{refused, given, outcome, follow}
use Rattle.quantity.proofs.Refusing.{skip}
use Rattle.ledger.specs.Day.{Answered, no_day, opened_day}
use Rattle.ledger.specs.Before.{opening_before}
use Rattle.accuracy.specs.Before.{OpeningBefore, AsBefore}

-- what opening gives by the number of the first rule that refuses; the rule 18 does not
opening : (daytime night : List ℕ) → OpeningBefore daytime night
opening daytime night = ap by_number (skip _ _ refl)
  where
    by_number : ℕ → Answered Unit
    by_number n =
        follow (outcome n (opened_day (opening_before daytime night)))
        (λ k. record { day = no_day; answer = refused k })
        (λ day. record { day = day; answer = given tt })

pub as_before : AsBefore
as_before daytime night = (opening daytime night, λ o unbooked end used. refl, λ r v. refl, λ s. refl, λ t. (refl, refl))
