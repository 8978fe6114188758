-- The levels of a run of records.
use Rattle.std.proofs.Common.{◌≡◌, ℕ, List, [], ◌∷◌, map, refl, ap}
use Rattle.c_interface.specs.Numbers.{record_level, record_levels}

pub levels_same : (records : List ℕ) → map record_level records ≡ record_levels records
unfolding record_levels
levels_same [] = refl
levels_same (n ∷ rest) = ap (◌∷◌ (record_level n)) (levels_same rest)
