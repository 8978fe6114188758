-- What a function that is called from C answers, and what is in what it was lent when it returns.
use Rattle.std.specs.Prelude.{ℕ}
use Rattle.quantity.specs.Rules.{Outcome, follow}

-- the answer, 0 or the number of a refusal, and what was lent
pub record Left (L : Type 0) : Type 0 where
  pub answer : ℕ
  pub lent : L

-- a call that is refused leaves what it was lent as it was; one that gives a value leaves what is written for it
abbrev pub leaves : {A L : Type 0} → L → Outcome A → (A → L) → Left L
leaves lent result written =
    follow result (λ n. record { answer = n; lent = lent }) (λ value. record { answer = 0; lent = written value })
