-- Document 01, 'Day file': a number in decimal, as ASCII bytes.
use Rattle.std.specs.Prelude.{cond, List, [], ◌∷◌, ◌++◌, ℕ, zero, suc, ◌+◌, ◌/◌, ◌%◌, ltb}

-- the digit of a number below ten
abbrev pub digit : ℕ → ℕ
digit n = 48 + n

-- a number of at most k digits
unfoldable pub digits_within : ℕ → ℕ → List ℕ
digits_within zero n = []
digits_within (suc k) n = cond (ltb n 10) (digit n ∷ []) (digits_within k (n / 10) ++ (digit (n % 10) ∷ []))

-- a number in decimal, without leading zeros; numbers of 64 bits have at most twenty digits
abbrev pub decimal : ℕ → List ℕ
decimal = digits_within 20
