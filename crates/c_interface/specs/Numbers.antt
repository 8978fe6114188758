-- The numbers by which levels, day records, findings and margins go out of the library and come in.
use Rattle.std.specs.Prelude.{true, false, cond, List, [], ◌∷◌, map, ◌≡◌, ℕ, ◌+◌, ◌*◌, ◌/◌, ◌%◌, ◌<◌, eqb, ℤ, pos, neg_ℤ, get_or}
use Rattle.std.proofs.Math.Option.{Option, some, none}
use Rattle.std.specs.Int.Signed.{lt_z, mag}
use Rattle.quantity.specs.Answers.{Reading, level, below_scale}
use Rattle.quantity.specs.Numbers.{signed, bits_of}
use Rattle.land.specs.Verdict.{Finding, over, no_limit}

-- W-210: levels are numbers with a sign. The lowest number of 32 bits stands for 'below scale': it is under every level.
abbrev pub below_scale_number : ℤ
below_scale_number = neg_ℤ (pos 2147483648)

abbrev pub level_from : ℤ → Reading
level_from r = cond (lt_z below_scale_number r) (level r) below_scale

abbrev pub level_number : Reading → ℤ
level_number (level r) = r
level_number below_scale = below_scale_number

-- the bits of that number, two's complement
abbrev pub level_bits : Reading → ℕ
level_bits r = bits_of (level_number r)

-- the number that stands for no Lmax
abbrev pub no_lmax : ℕ
no_lmax = 4294967295

abbrev pub highest_from : ℕ → Option ℕ
highest_from n = cond (eqb n no_lmax) none (some n)

abbrev pub highest_number : Option ℕ → ℕ
highest_number (some c) = c
highest_number none = no_lmax

-- the highest Lmax of each class
abbrev pub class_numbers : List (Option ℕ) → List ℕ
class_numbers = map highest_number

abbrev pub class_levels_from : List ℕ → List (Option ℕ)
class_levels_from = map highest_from

-- where the upper 32 bits of a number of 64 begin
abbrev pub upper : ℕ
upper = 4294967296

-- W-208: an energy below 2 ^ 128 in two numbers of 64 bits, the lower half first
abbrev pub half : ℕ
half = upper * upper

abbrev pub energy_numbers : ℕ → List ℕ
energy_numbers S = S % half ∷ S / half ∷ []

abbrev pub energy_from : List ℕ → ℕ
energy_from numbers = get_or numbers 0 0 + half * get_or numbers 1 0

-- a day's answer in one number of 64 bits: the bits of its level in the lower half, its method in the upper one
abbrev pub record_number : Reading → ℕ → ℕ
record_number ldn method = level_bits ldn + upper * method

abbrev pub record_level : ℕ → Reading
record_level n = level_from (signed (n % upper))

abbrev pub record_method : ℕ → ℕ
record_method n = n / upper

-- a level that 32 bits hold and that is told from the number for 'below scale', as every level is that the library gives; `mag` of -(n + 1) is n
abbrev pub Told : Reading → Type 0
Told (level r) = mag r < 2147483647
Told below_scale = Unit

abbrev pub ToldHighest : Option ℕ → Type 0
ToldHighest (some c) = c < no_lmax
ToldHighest none = Unit

-- reading a record that was written gives the level and the method that were written
abbrev pub RecordLaw : Type 0
RecordLaw = (r : Reading) (method : ℕ) → Told r → (record_level (record_number r method) ≡ r) × (record_method (record_number r method) ≡ method)

unfoldable pub record_levels : List ℕ → List Reading
record_levels [] = []
record_levels (n ∷ rest) = record_level n ∷ record_levels rest

-- what a verdict names
abbrev pub finding_number : Finding → ℕ
finding_number (over false false) = 0
finding_number (over true false) = 1
finding_number (over false true) = 2
finding_number (over true true) = 3
finding_number no_limit = 4

-- a margin; none is the largest number of 32 bits
abbrev pub margin_number : Option ℤ → ℤ
margin_number (some m) = m
margin_number none = pos 2147483647
