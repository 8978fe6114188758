-- An array that is filled, one place a turn.
use mathlib.Core.Path.{◌≡◌, refl, sym, ◌∙◌}
use mathlib.Core.List.{List}
use Prim.Native.Nat.{ℕ, ◌+◌, ◌≤◌, ◌<◌, zero-le}
use native.Mathlib.Numerals.{add-one}
use native.Mathlib.Omega.{arith}
use lib.ListN.{length, take, set, get_or, length-set}
use lib.Seq.{take_all, take-suc, take-suc-set}

-- at i: the places before i hold what the whole is to hold there
pub record Filling {A : Type 0} (whole array : List A) (i : ℕ) : Type 0 where
  pub within : i ≤ length whole
  pub as_long : length array ≡ length whole
  pub filled : take i array ≡ take i whole

pub filled_none : {A : Type 0} {whole array : List A} → length array ≡ length whole → Filling whole array 0
filled_none same = record { within = zero-le; as_long = same; filled = refl }

module _ {A : Type 0} {whole array : List A} {i : ℕ} (p : Filling whole array i) where
  pub filled_more : {x : A} (d : A) → i < length whole → x ≡ get_or whole i d → Filling whole (set array i x) (i + 1)
  filled_more {x} d h same =
      record {
        within = omega arith;
        as_long = rw length-set p.as_long;
        filled = rw (add-one i, take-suc-set array i x (omega (arith, p.as_long)), take-suc whole i d h, p.filled, same);
      }

  pub filled_all : length whole ≤ i → array ≡ whole
  filled_all h = sym (take_all i array (omega (arith, p.as_long))) ∙ p.filled ∙ take_all i whole h
