-- Times with a sign and their instants: a list of times is as long as that of their instants, and times are ordered and as far apart as their instants.
use mathlib.Core.Path.{◌≡◌, refl}
use mathlib.Core.List.{List, [], ◌∷◌}
use Prim.Native.Nat.{ℕ, zero, suc, ◌<◌}
use native.Mathlib.Omega.{arith}
use Rattle.std.proofs.lemmas.Int.{ints}
use lib.Dec.{ltb}
use lib.IntN.{ℤ, pos, negsuc, ◌-ℤ◌, nat_abs}
use lib.ListN.{length, get_or, length-map}
use lib.Signed.{lt_z}
use mir.Facts.{to_z-of_z}
use mir.Syntax.{w32}
use mir.Val.{SFits, to_z, of_z}
use Rattle.quantity.specs.Instants.{ticks_of}
use Rattle.quantity.specs.Numbers.{distance}
use Rattle.pairing.specs.Pairing.{instants}

pub as_many : (times : List ℤ) → length (instants times) ≡ length times
as_many times = simp length-map

-- the instant at a place is that of the time there
at_place : (times : List ℤ) (i : ℕ) → i < length times → get_or (instants times) i 0 ≡ ticks_of (get_or times i (pos 0))
at_place [] i there = absurd (omega arith)
at_place (time ∷ times) zero there = refl
at_place (time ∷ times) (suc i) there = at_place times i (omega arith)

-- two times of 32 bits come in the order of their instants, and are as far apart
in_order : (a b : ℤ) → SFits w32 a → SFits w32 b → lt_z a b ≡ ltb (ticks_of a) (ticks_of b)
in_order (pos m) (pos n) f g = grind (arith, ints)
in_order (pos m) (negsuc n) f g = grind (arith, ints)
in_order (negsuc m) (pos n) f g = grind (arith, ints)
in_order (negsuc m) (negsuc n) f g = grind (arith, ints)

apart : (a b : ℤ) → SFits w32 a → SFits w32 b → nat_abs (a -ℤ b) ≡ distance (ticks_of a) (ticks_of b)
apart (pos m) (pos n) f g = omega (arith, ints)
apart (pos m) (negsuc n) f g = omega (arith, ints)
apart (negsuc m) (pos n) f g = omega (arith, ints)
apart (negsuc m) (negsuc n) f g = omega (arith, ints)

-- a time as it is computed with: its bits, read again
abbrev pub read : ℤ → ℤ
read z = to_z w32 (of_z w32 z)

-- the times at two places of 32 bits each
module _ (movements peaks : List ℤ) {i j : ℕ} (i_there : i < length movements) (j_there : j < length peaks)
    (m : SFits w32 (get_or movements i (pos 0))) (p : SFits w32 (get_or peaks j (pos 0))) where
  pub earlier_at : lt_z (read (get_or movements i (pos 0))) (read (get_or peaks j (pos 0))) ≡ ltb (get_or (instants movements) i 0) (get_or (instants peaks) j 0)
  earlier_at = rw (to_z-of_z {w = w32} m, to_z-of_z {w = w32} p, at_place movements i i_there, at_place peaks j j_there) (in_order _ _ m p)

  pub apart_at : nat_abs (read (get_or movements i (pos 0)) -ℤ read (get_or peaks j (pos 0))) ≡ distance (get_or (instants movements) i 0) (get_or (instants peaks) j 0)
  apart_at = rw (to_z-of_z {w = w32} m, to_z-of_z {w = w32} p, at_place movements i i_there, at_place peaks j j_there) (apart _ _ m p)

  pub distance_at : distance (ticks_of (read (get_or movements i (pos 0)))) (ticks_of (read (get_or peaks j (pos 0)))) ≡ distance (get_or (instants movements) i 0) (get_or (instants peaks) j 0)
  distance_at = rw (to_z-of_z {w = w32} m, to_z-of_z {w = w32} p, at_place movements i i_there, at_place peaks j j_there) refl
