-- Document 01, 'Refused calls': a call is checked by a table of rules in the paper's order, and the first that refuses gives the answer.
use Rattle.std.specs.Prelude.{ℕ, zero, suc, Bool, cond, List, [], ◌∷◌}

-- a row: the number that is returned, and the test by which the call is refused
pub record Rule : Type 0 where
  pub number : ℕ
  pub refuses : Bool

-- the number of the first rule that refuses, 0 where none does
unfoldable pub first_of : List Rule → ℕ
first_of [] = 0
first_of (r ∷ rs) = cond r.refuses r.number (first_of rs)

-- what a call answers: the number of a refusal, or a value
pub data Outcome (A : Type 0) : Type 0 where
  refused : ℕ → Outcome A
  given : A → Outcome A

-- the value where the number of the refusal is 0, and the refusal otherwise
abbrev pub outcome : {A : Type 0} → ℕ → A → Outcome A
outcome zero a = given a
outcome (suc n) a = refused (suc n)

-- what follows a refusal, and what follows a value
abbrev pub follow : {A B : Type 0} → Outcome A → (ℕ → B) → (A → B) → B
follow (refused n) on_refusal on_value = on_refusal n
follow (given a) on_refusal on_value = on_value a
