-- Marks: all cleared, one pair more, and the pairs that they name, which are a pairing under the rule.
use mathlib.Core.Path.{◌≡◌, refl, sym, ◌∙◌}
use mathlib.Core.HLevel.{⊥_prop}
use mathlib.Core.Logic.Or
use mathlib.Core.Logic.{◌≢◌}
use mathlib.Core.List.{List, [], ◌∷◌, map, Mem, Nodup, Nodup-nil, Nodup-cons, not-mem-nil, eq-or-mem_of_mem-cons}
use Prim.Native.Nat.{ℕ, zero, suc, ◌+◌, ◌≤◌, ◌<◌}
use native.Mathlib.Nat.{zero-add}
use native.Mathlib.Omega.{arith}
use native.Mathlib.Numerals.{add-one}
use borrow.Author.Tests.{eqb-true, eqb-false}
use lib.Dec.{eqb}
use lib.ListN.{length, get_or, set, replicate}
use lib.Seq.{get_or-set_same, get_or-set_other}
use Rattle.quantity.specs.Lists.{Each}
use Rattle.quantity.proofs.Tests.{test}
use Rattle.quantity.proofs.Lists.{zero_at}
use Rattle.pairing.specs.Pairing.{Pair, Near, Pairing, pairs_from, Largest}

-- cleared marks name nothing
no_pairs : (i n : ℕ) → length (pairs_from i (replicate n 0)) ≡ 0
no_pairs i zero = refl
no_pairs i (suc n) = no_pairs (suc i) n

-- a mark in the place of a 0 names one pair more
pairs_more : (i : ℕ) (marks : List ℕ) (k j : ℕ) → k < length marks → get_or marks k 0 ≡ 0
    → length (pairs_from i (set marks k (j + 1))) ≡ length (pairs_from i marks) + 1
pairs_more i [] k j h e = absurd (omega arith)
pairs_more i (zero ∷ marks) zero j h e = rw (add-one j) (omega arith)
pairs_more i (suc m ∷ marks) zero j h e = absurd (omega arith)
pairs_more i (zero ∷ marks) (suc k) j h e = pairs_more (suc i) marks k j (omega arith) e
pairs_more i (suc m ∷ marks) (suc k) j h e = omega (arith, pairs_more (suc i) marks k j (omega arith) e)

-- marks that name this count of pairs: each that is not 0 names a partner that is near and names it back
pub record Marked (movements peaks : List ℕ) (tolerance : ℕ) (m p : List ℕ) (count : ℕ) : Type 0 where
  pub movement_named : (i j : ℕ) → get_or m i 0 ≡ j + 1
      → Near movements peaks tolerance (record { movement = i; peak = j }) × (get_or p j 0 ≡ i + 1)
  pub peak_named : (i j : ℕ) → get_or p j 0 ≡ i + 1 → get_or m i 0 ≡ j + 1
  pub counted : length (pairs_from 0 m) ≡ count

pub marked_none : (movements peaks : List ℕ) (tolerance m n : ℕ) → Marked movements peaks tolerance (replicate m 0) (replicate n 0) 0
marked_none movements peaks tolerance m n =
    record {
      movement_named = λ i j e. absurd (omega (arith, zero_at m i));
      peak_named = λ i j e. absurd (omega (arith, zero_at n j));
      counted = no_pairs 0 m;
    }

-- a pair of two entries that are not marked
module _ {movements peaks : List ℕ} {tolerance : ℕ} {m p : List ℕ} {count : ℕ} (marked : Marked movements peaks tolerance m p count)
    (i j : ℕ) (near : Near movements peaks tolerance (record { movement = i; peak = j }))
    (m_there : i < length m) (p_there : j < length p) (m_free : get_or m i 0 ≡ 0) (p_free : get_or p j 0 ≡ 0) where
  pub marked_more : Marked movements peaks tolerance (set m i (j + 1)) (set p j (i + 1)) (count + 1)
  marked_more =
      record {
        movement_named = λ k l e.
            test (eqb k i)
            (λ t. let s = eqb-true k i t in
            let u : l ≡ j = omega (arith, rw (s, get_or-set_same m i (j + 1) 0 m_there) at e) in
            rw (s, u) (near, get_or-set_same p j (i + 1) 0 p_there))
            (λ t. let n = eqb-false k i t in
            let old = marked.movement_named k l (sym (get_or-set_other m i k (j + 1) 0 n) ∙ e) in
            (old.0, get_or-set_other p j l (i + 1) 0 (λ s. absurd (omega (arith, rw s at old.1, p_free))) ∙ old.1));
        peak_named = λ k l e.
            test (eqb l j)
            (λ t. let s = eqb-true l j t in
            let u : k ≡ i = omega (arith, rw (s, get_or-set_same p j (i + 1) 0 p_there) at e) in
            rw (s, u) (get_or-set_same m i (j + 1) 0 m_there))
            (λ t. let n = eqb-false l j t in
            let old = marked.peak_named k l (sym (get_or-set_other p j l (i + 1) 0 n) ∙ e) in
            get_or-set_other m i k (j + 1) 0 (λ s. absurd (omega (arith, rw s at old, m_free))) ∙ old);
        counted = omega (arith, marked.counted, pairs_more 0 m i j m_there m_free);
      }

-- what each mark says of the pair that it names holds for each of the pairs
each_pair : (P : Pair → Type 0) (i : ℕ) (marks : List ℕ) → ((k j : ℕ) → get_or marks k 0 ≡ j + 1 → P (record { movement = i + k; peak = j }))
    → Each P (pairs_from i marks)
each_pair P i [] h = tt
each_pair P i (zero ∷ marks) h = each_pair P (suc i) marks (λ k j e. let s : suc i + k ≡ i + suc k = omega arith in rw s (h (suc k) j e))
each_pair P i (suc j ∷ marks) h = (
  let s : i + 0 ≡ i = omega arith in rw s at (h 0 j (sym (add-one j))),
  each_pair P (suc i) marks (λ k l e. let s : suc i + k ≡ i + suc k = omega arith in rw s (h (suc k) l e)),
)

-- a place that no other pair has comes once
each_once : (f : Pair → ℕ) (k : ℕ) (pairs : List Pair) → Each (λ p. f p ≢ k) pairs → Mem k (map f pairs) → ⊥
each_once f k [] e m = not-mem-nil m
each_once f k (p ∷ pairs) e m =
    Or.elim ⊥_prop (eq-or-mem_of_mem-cons m) (λ s. e.0 (sym s)) (each_once f k pairs e.1)

once_movement : (i : ℕ) (marks : List ℕ) → Nodup (map (λ p. p.movement) (pairs_from i marks))
once_movement i [] = Nodup-nil
once_movement i (zero ∷ marks) = once_movement (suc i) marks
once_movement i (suc j ∷ marks) =
    Nodup-cons.1 (
      each_once (λ p. p.movement) i (pairs_from (suc i) marks) (each_pair (λ p. p.movement ≢ i) (suc i) marks (λ k l e s. omega arith)),
      once_movement (suc i) marks,
    )

-- a peak that two movements name names both back
once_peak : (p : List ℕ) (i : ℕ) (marks : List ℕ) → ((k j : ℕ) → get_or marks k 0 ≡ j + 1 → get_or p j 0 ≡ i + k + 1)
    → Nodup (map (λ q. q.peak) (pairs_from i marks))
once_peak p i [] h = Nodup-nil
once_peak p i (zero ∷ marks) h = once_peak p (suc i) marks (λ k j e. omega (arith, h (suc k) j e))
once_peak p i (suc j ∷ marks) h =
    let other = each_pair (λ q. q.peak ≢ j) (suc i) marks (λ k l e s. omega (arith, h 0 j (sym (add-one j)), rw s at (h (suc k) l e))) in
    Nodup-cons.1
    (each_once (λ q. q.peak) j (pairs_from (suc i) marks) other, once_peak p (suc i) marks (λ k l e. omega (arith, h (suc k) l e)))

-- marks of as many pairs as any pairing has are those of a largest one
pub largest : {movements peaks : List ℕ} {tolerance : ℕ} {m p : List ℕ} {count : ℕ} → length m ≡ length movements → length p ≡ length peaks
    → Marked movements peaks tolerance m p count
    → ((pairs : List Pair) → Pairing movements peaks tolerance pairs → length pairs ≤ count)
    → Largest movements peaks tolerance (record { movements = m; peaks = p }) count
largest {movements} {peaks} {tolerance} {m} {p} a b marked most =
    record {
      movements_marked = a;
      peaks_marked = b;
      named_back = λ i j. (λ e. (marked.movement_named i j e).1, marked.peak_named i j);
      given = record {
        near = each_pair (Near movements peaks tolerance) 0 m (λ k j e. rw zero-add (marked.movement_named k j e).0);
        movements_once = once_movement 0 m;
        peaks_once = once_peak p 0 m (λ k j e. omega (arith, (marked.movement_named k j e).1));
      };
      counted = marked.counted;
      most = most;
    }
