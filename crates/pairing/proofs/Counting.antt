-- No pairing has more pairs than are counted. Of any pairing, the pairs with a movement before i, and those with a peak before j, are at
-- most as many as the pairs given so far: an entry that is passed alone has no partner ahead in the other list, so the pairs counted on its
-- side are among those counted on the other.
use mathlib.Core.Path.{◌≡◌, sym}
use mathlib.Core.Bool.{false, cond}
use mathlib.Core.Logic.{◌≢◌}
use mathlib.Core.List.{List, [], ◌∷◌, map, Mem, Nodup, Nodup-cons, mem-cast, mem-cons_self, mem-cons_of_mem}
use Prim.Native.Nat.{ℕ, suc, ◌+◌, ◌≤◌, ◌<◌}
use native.Mathlib.Omega.{arith}
use borrow.Author.Tests.{lt-ltb, le-ltb, ltb-true, ltb-false}
use lib.Dec.{ltb}
use lib.ListN.{length, get_or}
use Rattle.quantity.specs.Lists.{Each}
use Rattle.quantity.proofs.Tests.{test}
use Rattle.quantity.proofs.Lists.{each_map}
use Rattle.pairing.specs.Answers.{falls}
use Rattle.pairing.specs.Pairing.{Pair, Near, Pairing}
use Rattle.pairing.proofs.Rising.{rising}

-- what is not in a list is none of its entries
each_other : (k : ℕ) (places : List ℕ) → (Mem k places → ⊥) → Each (λ place. place ≢ k) places
each_other k [] h = tt
each_other k (place ∷ places) h = (λ e. h (mem-cast (sym e) mem-cons_self), each_other k places (λ m. h (mem-cons_of_mem place m)))

-- how many places lie before k
abbrev before : ℕ → List ℕ → ℕ
before k [] = 0
before k (place ∷ places) = cond (ltb place k) (suc (before k places)) (before k places)

before_none : (places : List ℕ) → before 0 places ≤ 0
before_none [] = omega arith
before_none (place ∷ places) =
    let h = before_none places in
    test (ltb place 0) (λ t. absurd (omega (arith, ltb-true place 0 t))) (λ t. rw t h)

before_skip : (k : ℕ) (places : List ℕ) → Each (λ place. place ≢ k) places → before (k + 1) places ≤ before k places
before_skip k [] e = omega arith
before_skip k (place ∷ places) e =
    let h = before_skip k places e.1 in
    test (ltb place k)
    (λ t. rw (t, lt-ltb place (k + 1) (omega (arith, ltb-true place k t))) (omega arith))
    (λ t. rw (t, le-ltb place (k + 1) (omega (arith, ltb-false place k t, e.0))) (omega arith))

-- one place more counts one pair more at the most
before_next : (k : ℕ) (places : List ℕ) → Nodup places → before (k + 1) places ≤ before k places + 1
before_next k [] once = omega arith
before_next k (place ∷ places) once =
    let h = before_next k places (Nodup-cons.0 once).1 in
    test (ltb place k)
    (λ t. rw (t, lt-ltb place (k + 1) (omega (arith, ltb-true place k t))) (omega arith))
    (λ t. rw t (test (ltb place (k + 1))
    (λ u. let same : place ≡ k = omega (arith, ltb-false place k t, ltb-true place (k + 1) u) in
    let other = each_other k places (rw same at (Nodup-cons.0 once).0) in
    rw u (omega (arith, before_skip k places other)))
    (λ u. rw u (omega arith))))

module _ (f : Pair → ℕ) where
  before_all : (k : ℕ) (pairs : List Pair) → Each (λ p. f p < k) pairs → length pairs ≤ before k (map f pairs)
  before_all k [] e = omega arith
  before_all k (p ∷ pairs) e = rw (lt-ltb (f p) k e.0) (omega (arith, before_all k pairs e.1))

  -- where each pair that is counted on one side is counted on another
  before_among : (g : Pair → ℕ) (k l : ℕ) (pairs : List Pair) → Each (λ p. f p < k → g p < l) pairs
      → before k (map f pairs) ≤ before l (map g pairs)
  before_among g k l [] e = omega arith
  before_among g k l (p ∷ pairs) e =
      let h = before_among g k l pairs e.1 in
      test (ltb (f p) k)
      (λ t. rw (t, lt-ltb (g p) l (e.0 (ltb-true (f p) k t))) (omega arith))
      (λ t. rw t (test (ltb (g p) l) (λ u. rw u (omega arith)) (λ u. rw u (omega arith))))

-- where the entry at i of a list is too early for the one at j of the other, no entry up to it has a partner from j on
early : (s r : List ℕ) (tolerance i j k l : ℕ) → falls s ≡ false → falls r ≡ false → i < length s → l < length r
    → get_or s i 0 + tolerance < get_or r j 0 → get_or r l 0 ≤ get_or s k 0 + tolerance → k < i + 1 → l < j
early s r tolerance i j k l f g i_there l_there far near h =
    test (ltb l j) (ltb-true l j)
    (λ t. absurd (omega (arith, rising s f k i (omega arith) i_there, rising r g j l (ltb-false l j t) l_there)))

-- of any pairing, the pairs before i, and those before j, are at most count
pub record Most (movements peaks : List ℕ) (tolerance i j count : ℕ) : Type 0 where
  pub on_movements : (pairs : List Pair) → Pairing movements peaks tolerance pairs → before i (map (λ p. p.movement) pairs) ≤ count
  pub on_peaks : (pairs : List Pair) → Pairing movements peaks tolerance pairs → before j (map (λ p. p.peak) pairs) ≤ count

pub most_none : (movements peaks : List ℕ) (tolerance : ℕ) → Most movements peaks tolerance 0 0 0
most_none movements peaks tolerance =
    record {
      on_movements = λ pairs q. before_none (map (λ p. p.movement) pairs);
      on_peaks = λ pairs q. before_none (map (λ p. p.peak) pairs);
    }

module _ {movements peaks : List ℕ} {tolerance i j count : ℕ} (most : Most movements peaks tolerance i j count) where
  pub most_pair : Most movements peaks tolerance (i + 1) (j + 1) (count + 1)
  most_pair =
      record {
        on_movements = λ pairs q. omega (arith, most.on_movements pairs q, before_next i (map (λ p. p.movement) pairs) q.movements_once);
        on_peaks = λ pairs q. omega (arith, most.on_peaks pairs q, before_next j (map (λ p. p.peak) pairs) q.peaks_once);
      }

  -- at the end of a list all pairs are counted
  pub most_movements : length movements ≤ i → (pairs : List Pair) → Pairing movements peaks tolerance pairs → length pairs ≤ count
  most_movements h pairs q =
      let all = before_all (λ p. p.movement) i pairs (each_map (λ p n. omega (arith, n.movement_there)) pairs q.near) in
      omega (arith, most.on_movements pairs q, all)

  pub most_peaks : length peaks ≤ j → (pairs : List Pair) → Pairing movements peaks tolerance pairs → length pairs ≤ count
  most_peaks h pairs q =
      let all = before_all (λ p. p.peak) j pairs (each_map (λ p n. omega (arith, n.peak_there)) pairs q.near) in
      omega (arith, most.on_peaks pairs q, all)

  module _ (m : falls movements ≡ false) (p : falls peaks ≡ false) where
    pub most_movement : i < length movements → get_or movements i 0 + tolerance < get_or peaks j 0 → Most movements peaks tolerance (i + 1) j count
    most_movement there far =
        let partner : (r : Pair) → Near movements peaks tolerance r → r.movement < i + 1 → r.peak < j =
        λ r n. early movements peaks tolerance i j r.movement r.peak m p there n.peak_there far (omega (arith, n.near)) in
        record {
          on_movements = λ pairs q.
              let among = before_among (λ r. r.movement) (λ r. r.peak) (i + 1) j pairs (each_map partner pairs q.near) in
              omega (arith, most.on_peaks pairs q, among);
          on_peaks = most.on_peaks;
        }

    pub most_peak : j < length peaks → get_or peaks j 0 + tolerance < get_or movements i 0 → Most movements peaks tolerance i (j + 1) count
    most_peak there far =
        let partner : (r : Pair) → Near movements peaks tolerance r → r.peak < j + 1 → r.movement < i =
        λ r n. early peaks movements tolerance j i r.peak r.movement p m there n.movement_there far (omega (arith, n.near)) in
        record {
          on_movements = most.on_movements;
          on_peaks = λ pairs q.
              let among = before_among (λ r. r.peak) (λ r. r.movement) (j + 1) i pairs (each_map partner pairs q.near) in
              omega (arith, most.on_movements pairs q, among);
        }
