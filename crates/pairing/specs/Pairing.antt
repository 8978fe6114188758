-- Document 02, W-203: the rule that pairings are compared under, marks, and which marks are those of a largest pairing.
use Rattle.std.specs.Prelude.{◌≡◌, ◌↔◌, ℕ, zero, suc, ◌+◌, ◌≤◌, ◌<◌, length, get_or, ℤ}
use mathlib.Core.List.{List, [], ◌∷◌, map, Nodup}
use Rattle.quantity.specs.Instants.{ticks_of}
use Rattle.quantity.specs.Lists.{Each}
use Rattle.quantity.specs.Numbers.{distance}

-- W-205: times before midnight are negative; the definitions of W-203 speak of the instants of a list
abbrev pub instants : List ℤ → List ℕ
instants = map ticks_of

-- a movement and a peak, by their places in the lists counted from 0
pub record Pair : Type 0 where
  pub movement : ℕ
  pub peak : ℕ

-- 'an entry's mark is its partner's place counted from 1, or 0 when unpaired'
pub record Marks : Type 0 where
  pub movements : List ℕ
  pub peaks : List ℕ

-- the pairs that are named by the marks of the movements from a place on
abbrev pub pairs_from : ℕ → List ℕ → List Pair
pairs_from i [] = []
pairs_from i (zero ∷ marks) = pairs_from (suc i) marks
pairs_from i (suc j ∷ marks) = record { movement = i; peak = j } ∷ pairs_from (suc i) marks

abbrev pub pairs_of : Marks → List Pair
pairs_of marks = pairs_from 0 marks.movements

module _ (movements peaks : List ℕ) (tolerance : ℕ) where
  -- 'no further apart than the tolerance'
  pub record Near (p : Pair) : Type 0 where
    pub movement_there : p.movement < length movements
    pub peak_there : p.peak < length peaks
    pub near : distance (get_or movements p.movement 0) (get_or peaks p.peak 0) ≤ tolerance

  -- 'each used at most once': any list of such pairs without a movement or a peak twice, whether they cross or not
  pub record Pairing (pairs : List Pair) : Type 0 where
    pub near : Each Near pairs
    pub movements_once : Nodup (map (λ p. p.movement) pairs)
    pub peaks_once : Nodup (map (λ p. p.peak) pairs)

  -- 'The count returned is that of the pairs given, and every other pairing under that rule has at most as many.'
  pub record Largest (marks : Marks) (count : ℕ) : Type 0 where
    pub movements_marked : length marks.movements ≡ length movements
    pub peaks_marked : length marks.peaks ≡ length peaks
    pub named_back : (i j : ℕ) → (get_or marks.movements i 0 ≡ j + 1) ↔ (get_or marks.peaks j 0 ≡ i + 1)
    pub given : Pairing (pairs_of marks)
    pub counted : length (pairs_of marks) ≡ count
    pub most : (pairs : List Pair) → Pairing pairs → length pairs ≤ count
