-- Document 02, W-203: which calls are refused, what a call answers, and the marks that it leaves.
use Rattle.std.specs.Prelude.{◌≡◌, Bool, false, not, ◌||◌, List, [], ◌∷◌, ℕ, suc, ltb, eqb, length, Result}
use Rattle.quantity.specs.Answers.{outcome_of}
use Rattle.quantity.specs.Rules.{Rule, first_of, Outcome, refused, given}
use Rattle.quantity.specs.declared.Refusal.{Refusal}
use Rattle.pairing.specs.Pairing.{Marks, Largest}

-- 'longer than 2000'
abbrev pub most_entries : ℕ
most_entries = 2000

-- 'a list falls': a time is earlier than the one before it
unfoldable pub falls : List ℕ → Bool
falls [] = false
falls (a ∷ []) = false
falls (a ∷ b ∷ times) = ltb b a || falls (b ∷ times)

-- 'a list falls, is longer than 2000, or its lent marks differ in length'
unfoldable pub unfit : List ℕ → List ℕ → Bool
unfit times marks = falls times || (ltb most_entries (length times) || not (eqb (length marks) (length times)))

-- 'Refusal 19', 'the only check'
abbrev pub pairing_rules : List ℕ → List ℕ → Marks → List Rule
pairing_rules movements peaks lent =
    record { number = 19; refuses = unfit movements lent.movements || unfit peaks lent.peaks } ∷ []

-- the count of the pairs given, or the number of a refusal
abbrev pub pairing_reading : Result ℕ Refusal → Outcome ℕ
pairing_reading = outcome_of (λ count. count)

-- what a call answers and the marks that it leaves, for the marks that it was lent: 'Marks on a refusal stay untouched', and
-- 'which of several largest pairings is given is left free'
pub data Answered (movements peaks : List ℕ) (tolerance : ℕ) (lent : Marks) : Outcome ℕ → Marks → Type 0 where
  untouched : {n : ℕ} → first_of (pairing_rules movements peaks lent) ≡ suc n → Answered movements peaks tolerance lent (refused (suc n)) lent
  paired : {count : ℕ} {marks : Marks} → first_of (pairing_rules movements peaks lent) ≡ 0
      → Largest movements peaks tolerance marks count → Answered movements peaks tolerance lent (given count) marks
