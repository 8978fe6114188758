-- Document 01, 'Powers': 10 ^ (c / 1000) at a level c, exact to K decimal places and by its first ten digits.
use Rattle.std.specs.Prelude.{ℕ, ◌+◌, ◌*◌, ◌/◌, ◌%◌, ◌^◌}
use Rattle.power.specs.Root.{root}

-- X(K, c): the whole number p with p ^ 1000 ≤ 10 ^ (1000 K + c) < (p + 1) ^ 1000
unfoldable pub X : ℕ → ℕ → ℕ
X K c = root 1000 (10 ^ (1000 * K + c))

-- m(f): the same to nine places, for f from 0 to 999
abbrev pub m : ℕ → ℕ
m f = X 9 f

-- e(c): m of the rest of c / 1000, times ten to the quotient
unfoldable pub e : ℕ → ℕ
e c = m (c % 1000) * 10 ^ (c / 1000)

-- the unit of e, e(0)
abbrev pub G : ℕ
G = 10 ^ 9
