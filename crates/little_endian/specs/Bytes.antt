-- Document 01, 'Day file': little-endian numbers in a list of bytes.
use Rattle.std.specs.Prelude.{List, [], ◌∷◌, ℕ, zero, suc, ◌+◌, ◌*◌, get_or}

-- the number in one byte, in two and in four, the lowest byte first
abbrev pub one_byte : List ℕ → ℕ → ℕ
one_byte bytes at = get_or bytes at 0

abbrev pub two_bytes : List ℕ → ℕ → ℕ
two_bytes bytes at = one_byte bytes at + 256 * one_byte bytes (at + 1)

abbrev pub four_bytes : List ℕ → ℕ → ℕ
four_bytes bytes at = two_bytes bytes at + 65536 * two_bytes bytes (at + 2)

-- a number of numbers in two bytes each: the first at a place, each a step behind the one before
unfoldable pub numbers_at : (bytes : List ℕ) (at step count : ℕ) → List ℕ
numbers_at bytes at step zero = []
numbers_at bytes at step (suc k) = two_bytes bytes at ∷ numbers_at bytes (at + step) step k
