-- Reading what was written: the level and the method of a record, the highest Lmax, and the energy of an hour.
use mathlib.Core.Path.{◌≡◌, refl, ap, ap₂, ◌∙◌}
use mathlib.Core.List.{[], ◌∷◌}
use mathlib.Core.Option.{Option, some, none}
use Prim.Native.Nat.{ℕ, ◌+◌, ◌*◌, ◌/◌, ◌%◌, ◌<◌}
use native.Mathlib.Omega.{arith}
use lib.ListN.{get_or}
use borrow.Author.Tests.{ne_eqb, lt-ltb}
use lib.IntN.{pos, negsuc}
use mir.Syntax.{w32}
use mir.Val.{SFits}
use Rattle.quantity.specs.Answers.{Reading, level, below_scale}
use Rattle.quantity.specs.Numbers.{signed}
use Rattle.quantity.proofs.Numbers.{signed_bits, bits_fit}
use Rattle.limbs.specs.Value.{value, limbs_of}
use Rattle.c_interface.specs.Numbers.{level_from, level_number, level_bits, highest_from, highest_number, upper, half, energy_numbers, energy_from, Told, ToldHighest, RecordLaw}

-- a level that is told is read from its number
pub told_level : (r : Reading) → Told r → level_from (level_number r) ≡ r
told_level (level (pos n)) h = refl
told_level (level (negsuc n)) h = rw (lt-ltb n 2147483647 h)
told_level below_scale h = refl

number_fits : (r : Reading) → Told r → SFits w32 (level_number r)
number_fits (level r) h = record { sfits = omega arith }
number_fits below_scale h = record { sfits = omega arith }

pub record_law : RecordLaw
record_law r method h =
    let fits = number_fits r h in
    let small : level_bits r < upper = bits_fit (level_number r) fits in
    let lower : (level_bits r + upper * method) % upper ≡ level_bits r = omega arith in
    let higher : (level_bits r + upper * method) / upper ≡ method = omega arith in
    (ap (λ (n : ℕ). level_from (signed n)) lower ∙ ap level_from (signed_bits (level_number r) fits) ∙ told_level r h, higher)

-- so is the highest Lmax
pub told_highest : (h : Option ℕ) → ToldHighest h → highest_from (highest_number h) ≡ h
told_highest (some c) h = rw (ne_eqb c 4294967295 (λ e. omega arith))
told_highest none h = refl

-- so is the energy of an hour
pub energy_told : (S : ℕ) → energy_from (energy_numbers S) ≡ S
energy_told S = omega arith

-- two limbs make one of its numbers
both_halves : (low high : ℕ) → low < half → (low ≡ (low + half * high) % half) × (high ≡ (low + half * high) / half)
both_halves low high h = (omega arith, omega arith)

pub energy_by_limbs : (n : ℕ) → (let l = limbs_of 4 n in (get_or l 0 0 + upper * get_or l 1 0) ∷ (get_or l 2 0 + upper * get_or l 3 0) ∷ []) ≡ energy_numbers (value (limbs_of 4 n))
unfolding value limbs_of
energy_by_limbs n =
    let low : ℕ = n % upper + upper * (n / upper % upper) in
    let high : ℕ = n / upper / upper % upper + upper * (n / upper / upper / upper % upper) in
    let whole : low + half * high ≡ value (limbs_of 4 n) = omega arith in
    let both = both_halves low high (omega arith) in
    ap₂ (λ (x y : ℕ). x ∷ y ∷ []) both.0 both.1 ∙ ap energy_numbers whole
