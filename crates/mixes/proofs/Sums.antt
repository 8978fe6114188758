-- Sums over the numbers below a bound.
use mathlib.Core.Path.{◌≡◌, refl, subst}
use mathlib.Core.Bool.{Bool, true, false, cond}
use Prim.Native.Nat.{ℕ, zero, suc, ◌+◌, ◌-◌, ◌*◌, ◌≤◌, ◌<◌}
use native.Mathlib.Nat.{add-suc, add-zero, mul-le-mul_right}
use lib.Dec.{leb}
use borrow.Author.Tests.{leb-true, leb-false}
use Rattle.quantity.proofs.Tests.{test}
use native.Mathlib.Omega.{arith}
use Rattle.mixes.specs.Ways.{sum_below, with_class, most_fit, Between}

pub sum_none : (f : ℕ → ℕ) → sum_below f 0 ≡ 0
unfolding sum_below
sum_none f = refl

pub sum_more : (f : ℕ → ℕ) (k : ℕ) → sum_below f (suc k) ≡ sum_below f k + f k
unfolding sum_below
sum_more f k = refl

-- no sum is above one of more terms
pub sum_up : (f : ℕ → ℕ) (i j : ℕ) → i ≤ j → sum_below f i ≤ sum_below f j
sum_up f i j h = subst (λ (k : ℕ). sum_below f i ≤ sum_below f k) (omega arith) (go (j - i))
  where
    go : (d : ℕ) → sum_below f i ≤ sum_below f (i + d)
    go zero = rw add-zero (omega arith)
    go (suc d) = rw (add-suc, sum_more) (omega (arith, go d))

-- equal terms
pub sum_same : (f g : ℕ → ℕ) (k : ℕ) → ((j : ℕ) → j < k → f j ≡ g j) → sum_below f k ≡ sum_below g k
unfolding sum_below
sum_same f g zero h = refl
sum_same f g (suc k) h = omega (arith, sum_same f g k (λ j l. h j (omega arith)), h k (omega arith))

-- terms that are 0 from a place on
pub sum_cut : (f : ℕ → ℕ) (k d : ℕ) → ((j : ℕ) → k ≤ j → f j ≡ 0) → sum_below f (k + d) ≡ sum_below f k
sum_cut f k zero h = rw add-zero
sum_cut f k (suc d) h = rw (add-suc, sum_more) (omega (arith, sum_cut f k d h, h (k + d) (omega arith)))

-- a sum up to d terms more is at most d times the highest term larger
pub sum_grows : (f : ℕ → ℕ) (b k d : ℕ) → ((j : ℕ) → f j ≤ b) → sum_below f (k + d) ≤ sum_below f k + d * b
sum_grows f b k zero h = rw add-zero (omega arith)
sum_grows f b k (suc d) h = rw (add-suc, sum_more) (omega (arith, sum_grows f b k d h, h (k + d)))

-- one step further, less a number of places: before that number is reached, nothing is added
pub sum_back : (f : ℕ → ℕ) (x l : ℕ) → f 0 ≡ 0 → sum_below f (suc x - l) ≡ sum_below f (x - l) + f (x - l)
sum_back f x l h = test (leb l x) reached early
  where
    reached : leb l x ≡ true → sum_below f (suc x - l) ≡ sum_below f (x - l) + f (x - l)
    reached t =
        let g : l ≤ x = leb-true l x t in
        let e : suc x - l ≡ suc (x - l) = omega arith in
        rw e (sum_more f (x - l))

    early : leb l x ≡ false → sum_below f (suc x - l) ≡ sum_below f (x - l) + f (x - l)
    early t =
        let g : x < l = leb-false l x t in
        let e : suc x - l ≡ 0 = omega arith in
        let d : x - l ≡ 0 = omega arith in
        rw (e, d) (omega (arith, sum_none f))

-- a class whose counts that fit are those from `first` on, below `end`
module _ {fit : ℕ → Bool} {first end : ℕ} (p : Between fit first end) (f : ℕ → ℕ) where
  -- its lists with the sum s, by count
  term : ℕ → ℕ → ℕ
  term s m = cond (fit m) (f (s - m)) 0

  term_out : (s m : ℕ) → fit m ≡ false → term s m ≡ 0
  unfolding term
  term_out s m h = rw h

  term_in : (s m : ℕ) → fit m ≡ true → term s m ≡ f (s - m)
  unfolding term
  term_in s m h = rw h

  before : (s k : ℕ) → k ≤ first → sum_below (term s) k ≡ 0
  before s zero h = sum_none (term s)
  before s (suc k) h = rw sum_more (omega (arith, before s k (omega arith), term_out s k (p.below k (omega arith))))

  during : (s k : ℕ) → first ≤ k → k ≤ end → k ≤ suc s → sum_below (term s) k + sum_below f (suc s - k) ≡ sum_below f (suc s - first)
  during s zero h g l =
      let e : first ≡ 0 = omega arith in
      rw (sum_none (term s), e) (omega arith)
  during s (suc k) h g l = test (leb first k) (more (λ i. during s k i (omega arith) (omega arith))) start
    where
      start : leb first k ≡ false → sum_below (term s) (suc k) + sum_below f (suc s - suc k) ≡ sum_below f (suc s - first)
      start t =
          let i : k < first = leb-false first k t in
          let e : first ≡ suc k = omega arith in
          rw (before s (suc k) (omega arith), e) (omega arith)

      more : (first ≤ k → sum_below (term s) k + sum_below f (suc s - k) ≡ sum_below f (suc s - first))
          → leb first k ≡ true → sum_below (term s) (suc k) + sum_below f (suc s - suc k) ≡ sum_below f (suc s - first)
      more r t =
          let i : first ≤ k = leb-true first k t in
          let e : suc s - k ≡ suc (s - k) = omega arith in
          let d : suc s - suc k ≡ s - k = omega arith in
          let a : sum_below f (suc s - k) ≡ sum_below f (s - k) + f (s - k) = rw e (sum_more f (s - k)) in
          rw (d, sum_more (term s) k) (omega (arith, r i, a, term_in s k (p.inside k i (omega arith))))

  -- the lists with the sum s, and those of the smaller sums that lie `end` before it or earlier, are those that lie `first` before it or earlier
  pub window : (s : ℕ) → with_class fit f s + sum_below f (suc s - end) ≡ sum_below f (suc s - first)
  unfolding with_class term
  window s = test (leb end (suc s)) past (λ t. test (leb first (suc s)) (middle t) early)
    where
      past : leb end (suc s) ≡ true → sum_below (term s) (suc s) + sum_below f (suc s - end) ≡ sum_below f (suc s - first)
      past t =
          let i : end ≤ suc s = leb-true end (suc s) t in
          let e : end + (suc s - end) ≡ suc s = omega arith in
          let z = sum_cut (term s) end (suc s - end) (λ j l. term_out s j (p.above j l)) in
          omega (arith, during s end p.ordered (omega arith) i, rw e at z)

      middle : leb end (suc s) ≡ false → leb first (suc s) ≡ true → sum_below (term s) (suc s) + sum_below f (suc s - end) ≡ sum_below f (suc s - first)
      middle t u =
          let i : suc s < end = leb-false end (suc s) t in
          let e : suc s - end ≡ suc s - suc s = omega arith in
          rw e (during s (suc s) (leb-true first (suc s) u) (omega arith) (omega arith))

      early : leb first (suc s) ≡ false → sum_below (term s) (suc s) + sum_below f (suc s - end) ≡ sum_below f (suc s - first)
      early u =
          let i : suc s < first = leb-false first (suc s) u in
          let e : suc s - end ≡ suc s - first = omega (arith, p.ordered) in
          rw (e, before s (suc s) (omega arith)) (omega arith)

  -- over all sums below k
  telescoped : (k : ℕ) → sum_below (with_class fit f) k + sum_below (sum_below f) (suc k - end) ≡ sum_below (sum_below f) (suc k - first)
  telescoped zero =
      let g : (l : ℕ) → sum_below (sum_below f) (suc 0 - l) ≡ 0 = λ l. none l in
      omega (arith, g end, g first, sum_none (with_class fit f))
    where
      none : (l : ℕ) → sum_below (sum_below f) (suc 0 - l) ≡ 0
      none l =
          let e : 0 - l ≡ 0 = omega arith in
          rw (sum_back (sum_below f) 0 l (sum_none f), e) (omega (arith, sum_none f, sum_none (sum_below f)))
  telescoped (suc k) =
      rw (sum_more (with_class fit f) k, sum_back (sum_below f) (suc k) end (sum_none f), sum_back (sum_below f) (suc k) first (sum_none f))
      (omega (arith, telescoped k, window k))

  -- the lists of all sums are at most as many times as before as counts fit
  pub bounded_more : (b : ℕ) → ((j : ℕ) → sum_below f j ≤ b) → (k : ℕ) → sum_below (with_class fit f) k ≤ b * most_fit
  bounded_more b h k =
      let d = (suc k - first) - (suc k - end) in
      let e : (suc k - end) + d ≡ suc k - first = omega (arith, p.ordered) in
      let g : d ≤ most_fit = omega (arith, p.narrow) in
      let a = sum_grows (sum_below f) b (suc k - end) d h in
      omega (arith, telescoped k, rw e at a, mul-le-mul_right b g)
