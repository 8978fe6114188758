-- Document 02, W-205: answers on times from 0 stay.
use Rattle.std.specs.Prelude.{◌↔◌, List, map, ℕ, pos}
use Rattle.quantity.specs.Rules.{Outcome}
use Rattle.pairing.specs.Pairing.{instants, Marks}
use Rattle.pairing.specs.Answers.{Answered}

-- on lists with no time before midnight, the answers and marks that are allowed are those that W-203 allows for the numbers as they stand
abbrev pub AsBefore : Type 0
AsBefore =
    (movements peaks : List ℕ) (tolerance : ℕ) (lent : Marks) (answer : Outcome ℕ) (marks : Marks)
    → Answered (instants (map pos movements)) (instants (map pos peaks)) tolerance lent answer marks
    ↔ Answered movements peaks tolerance lent answer marks
