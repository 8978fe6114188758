-- The code's own machinery, not the papers': a reader of the papers can leave it out.
-- A natural number as a run of limbs, least first: digits to the base 2 ^ 32.
use Rattle.std.specs.Prelude.{ℕ, suc, zero, ◌+◌, ◌*◌, ◌/◌, ◌%◌, List, [], ◌∷◌}

-- a limb is below it
abbrev pub base : ℕ
base = 4294967296

-- the number that a run of limbs is
unfoldable pub value : List ℕ → ℕ
value [] = 0
value (x ∷ xs) = x + base * value xs

-- the k lowest limbs of n: those of n modulo base ^ k
unfoldable pub limbs_of : ℕ → ℕ → List ℕ
limbs_of zero n = []
limbs_of (suc k) n = n % base ∷ limbs_of k (n / base)
