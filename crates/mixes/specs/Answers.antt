-- Document 02, W-212: which calls are refused, what a call answers, and what is left in the table that it was lent.
use Rattle.std.specs.Prelude.{◌≡◌, Bool, ◌||◌, List, [], ◌∷◌, ◌++◌, ℕ, ◌+◌, ◌*◌, ltb, eqb, length, drop, Result}
use Rattle.quantity.specs.Answers.{outcome_of}
use Rattle.quantity.specs.Rules.{Rule, first_of, Outcome, outcome, follow}
use Rattle.quantity.specs.declared.Refusal.{Refusal}
use Rattle.ledger.specs.Book.{sum_of, book_rules}
use Rattle.mixes.specs.Mix.{mixes_of}

-- 24: 'more than 8 classes'
abbrev pub most_mixed_classes : ℕ
most_mixed_classes = 8

-- 25: 'N' is 0 or above N'
abbrev pub is_measured_outside : List ℕ → List ℕ → ℕ → Bool
is_measured_outside daytime night N' = eqb N' 0 || ltb (sum_of daytime + sum_of night) N'

-- 'one row of N' + 1 for each class'
abbrev pub table_size : (classes N' : ℕ) → ℕ
table_size classes N' = classes * (N' + 1)

-- 'Order 10, 24, 25, 26', where so many numbers are lent
abbrev pub mix_rules : List ℕ → List ℕ → ℕ → ℕ → List Rule
mix_rules daytime night N' lent =
    book_rules daytime night
    ++ record { number = 24; refuses = ltb most_mixed_classes (length daytime) }
    ∷ record { number = 25; refuses = is_measured_outside daytime night N' }
    ∷ record { number = 26; refuses = ltb lent (table_size (length daytime) N') }
    ∷ []

-- how many mixes would pass, or the number of a refusal
abbrev pub mix_reading : Result ℕ Refusal → Outcome ℕ
mix_reading = outcome_of (λ count. count)

abbrev pub count_of_mixes : List ℕ → List ℕ → ℕ → (lent : ℕ) → Outcome ℕ
count_of_mixes daytime night N' lent = outcome (first_of (mix_rules daytime night N' lent)) (length (mixes_of daytime night N'))

-- how many numbers of a table are 'left free': those of the rows, and none where the call is refused
abbrev pub freed : Outcome ℕ → (used : ℕ) → ℕ
freed answer used = follow answer (λ n. 0) (λ count. used)

-- what a call answers, and the table that it leaves of the one that it was lent: the numbers that are not left free stay as they were
pub record Answered (daytime night : List ℕ) (N' : ℕ) (lent : List ℕ) (answer : Outcome ℕ) (left : List ℕ) : Type 0 where
  pub counted : answer ≡ count_of_mixes daytime night N' (length lent)
  pub whole : length left ≡ length lent
  pub kept : drop (freed answer (table_size (length daytime) N')) left ≡ drop (freed answer (table_size (length daytime) N')) lent
