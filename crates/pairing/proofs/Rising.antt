-- Lists that do not fall, one time after the other, and lists that are not refused.
use mathlib.Core.Path.{◌≡◌, refl, sym, ◌∙◌}
use native.Mathlib.Numerals.{add-one}
use mathlib.Core.Bool.{Bool, true, false, not, ◌||◌, or-true, or-false}
use mathlib.Core.List.{List, [], ◌∷◌}
use Prim.Native.Nat.{ℕ, zero, suc, ◌≤◌, ◌<◌}
use native.Mathlib.Omega.{arith}
use Rattle.std.proofs.lemmas.Bool.{not-true}
use Rattle.std.specs.List.{IsAllAdjacentAnswer}
use lib.IntN.{ℤ, pos}
use Rattle.quantity.specs.Instants.{ticks_of}
use Rattle.pairing.specs.Pairing.{instants}
use borrow.Author.Tests.{lt-ltb, le-ltb, ltb-false, eq-eqb, ne_eqb, eqb-true, not-false}
use lib.Dec.{ltb, eqb}
use lib.ListN.{length, get_or, set, length-set}
use Rattle.quantity.proofs.Tests.{neither}
use Rattle.pairing.specs.Answers.{most_entries, falls, unfit}

-- a fall at a place, and none at any
abbrev pub FallsAt : List ℤ → ℕ → Bool → Type 0
FallsAt times k b = ltb (ticks_of (get_or times (suc k) (pos 0))) (ticks_of (get_or times k (pos 0))) ≡ b

fall_at : (times : List ℤ) (k : ℕ) → suc k < length times → FallsAt times k true → falls (instants times) ≡ true
unfolding falls
fall_at [] k h t = absurd (omega arith)
fall_at (a ∷ []) k h t = absurd (omega arith)
fall_at (a ∷ b ∷ times) zero h t = rw t
fall_at (a ∷ b ∷ times) (suc k) h t = rw (fall_at (b ∷ times) k (omega arith) t) (or-true _)

fall_nowhere : (times : List ℤ) → ((k : ℕ) → suc k < length times → FallsAt times k false) → falls (instants times) ≡ false
unfolding falls
fall_nowhere [] h = refl
fall_nowhere (a ∷ []) h = refl
fall_nowhere (a ∷ b ∷ times) h = rw (h 0 (omega arith)) (fall_nowhere (b ∷ times) (λ k l. h (suc k) (omega arith)))

-- a list is sorted where each time is not earlier than the one before, and falls otherwise
pub sorted : (times : List ℤ) (r : Bool) → IsAllAdjacentAnswer (λ x y b. b ≡ not (ltb (ticks_of y) (ticks_of x))) times r → not r ≡ falls (instants times)
sorted times true h = sym (fall_nowhere times (λ k l. rw add-one at (not-true _ (sym (h k (pos 0) (omega arith))))))
sorted times false h = sym (fall_at times h.0 (omega (arith, h.1)) (rw add-one at (not-false _ (sym (h.2 (pos 0))))))

-- 'rising': a later time is not less
pub rising : (s : List ℕ) → falls s ≡ false → (i j : ℕ) → i ≤ j → j < length s → get_or s i 0 ≤ get_or s j 0
unfolding falls
rising [] f i j h l = absurd (omega arith)
rising (a ∷ []) f zero zero h l = omega arith
rising (a ∷ []) f (suc i) zero h l = absurd (omega arith)
rising (a ∷ []) f i (suc j) h l = absurd (omega arith)
rising (a ∷ b ∷ s) f zero zero h l = omega arith
rising (a ∷ b ∷ s) f zero (suc j) h l =
    let n = neither (ltb b a) (falls (b ∷ s)) f in
    omega (arith, ltb-false b a n.0, rising (b ∷ s) n.1 zero j (omega arith) (omega arith))
rising (a ∷ b ∷ s) f (suc i) zero h l = absurd (omega arith)
rising (a ∷ b ∷ s) f (suc i) (suc j) h l =
    rising (b ∷ s) (neither (ltb b a) (falls (b ∷ s)) f).1 i j (omega arith) (omega arith)

-- a list that is not refused with the marks that are lent for it
pub record Fit (times marks : List ℕ) : Type 0 where
  pub rises : falls times ≡ false
  pub few : length times ≤ most_entries
  pub as_many : length marks ≡ length times

pub fit : (times marks : List ℕ) → unfit times marks ≡ false → Fit times marks
unfolding unfit
fit times marks h =
    let a = neither (falls times) (ltb most_entries (length times) || not (eqb (length marks) (length times))) h in
    let b = neither (ltb most_entries (length times)) (not (eqb (length marks) (length times))) a.1 in
    record {
      rises = a.0;
      few = ltb-false most_entries (length times) b.0;
      as_many = eqb-true (length marks) (length times) (not-false (eqb (length marks) (length times)) b.1);
    }

-- the tests one after the other
module _ (times marks : List ℕ) where
  pub too_long : most_entries < length times → true ≡ unfit times marks
  unfolding unfit
  too_long h = rw (lt-ltb most_entries (length times) h) (sym (or-true (falls times)))

  pub other_length : length times ≤ most_entries → (length marks ≡ length times → ⊥) → true ≡ unfit times marks
  unfolding unfit
  other_length h n = rw (le-ltb most_entries (length times) h, ne_eqb (length marks) (length times) n) (sym (or-true (falls times)))

  pub by_fall : length times ≤ most_entries → length marks ≡ length times → falls times ≡ unfit times marks
  unfolding unfit
  by_fall h e = rw (le-ltb most_entries (length times) h, eq-eqb (length marks) (length times) e) (sym (or-false (falls times)))

pub fit_set : {times marks : List ℕ} → Fit times marks → (i mark : ℕ) → Fit times (set marks i mark)
fit_set {marks = marks} f i mark = record { rises = f.rises; few = f.few; as_many = length-set marks i mark ∙ f.as_many }
