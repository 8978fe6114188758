-- The counts of a class that fit lie side by side, from the first up to the end that division gives, and are few.
use mathlib.Core.Path.{◌≡◌}
use mathlib.Core.Bool.{true, false}
use Prim.Native.Nat.{ℕ, suc, ◌+◌, ◌-◌, ◌*◌, ◌/◌, ◌≤◌, ◌<◌, max, min}
use Rattle.std.specs.Int.{div_ceil}
use Rattle.std.proofs.lemmas.Grind.{div_ceil_times}
use native.Mathlib.Nat.{suc-mul, le_of_mul-le-mul_right, le-div_iff_mul-le, div-lt_iff_lt-mul}
use native.Mathlib.Omega.{arith}
use lib.Dec.{leb, ltb, eqb}
use borrow.Author.Tests.{ltb-true, ltb-false, leb-true, le-leb, eqb-false, ne_eqb}
use Rattle.quantity.proofs.Tests.{test, both}
use Rattle.method.specs.declared.Count.{Count}
use Rattle.method.proofs.Shares.{share_known, share_shown}
use Rattle.mixes.specs.Ways.{fits, least_of, at_least, at_most, most_fit, Between, Asked}

-- the counts of a class that fit: of a class that has flights one at least, and twenty times n'k N from 20 nk N' - N N' to 20 nk N' + N N'
abbrev pub first_fit : Count → ℕ → ℕ
first_fit all flights =
    at_least (least_of flights)
    ((20 * (flights * all.events) - all.flights * all.events + (20 * all.flights - 1)) / (20 * all.flights))

abbrev pub fit_end : Count → ℕ → ℕ
fit_end all flights =
    at_least (first_fit all flights)
    (at_most flights ((20 * (flights * all.events) + all.flights * all.events) / (20 * all.flights)) + 1)

-- a quotient that is rounded up is at most m where m times the divisor is enough
rounded_up : (d x m : ℕ) → 0 < d → x ≤ m * d → (x + (d - 1)) / d ≤ m
rounded_up d x m p h =
    let g : (x + (d - 1)) / d < suc m = (div-lt_iff_lt-mul {k = d} {x = x + (d - 1)} {y = suc m} p).1 (rw suc-mul (omega arith)) in
    omega arith

from_rounded : (d x m : ℕ) → 0 < d → (x + (d - 1)) / d ≤ m → x ≤ m * d
from_rounded d x m p h =
    let g : x + (d - 1) < suc m * d = (div-lt_iff_lt-mul {k = d} {x = x + (d - 1)} {y = suc m} p).0 (omega arith) in
    let e : suc m * d ≡ m * d + d = suc-mul m d in
    omega arith

-- the library's quotient that is rounded up
rounded : (x d : ℕ) → 0 < d → div_ceil x d ≡ (x + (d - 1)) / d
rounded x d p =
    let t = div_ceil_times x d p in
    let q = div_ceil x d in
    let low : q ≤ (x + (d - 1)) / d = (le-div_iff_mul-le {k = d} {x = q} {y = x + (d - 1)} p).1 (omega (arith, t.1)) in
    let high : (x + (d - 1)) / d < suc q = (div-lt_iff_lt-mul {k = d} {x = x + (d - 1)} {y = suc q} p).1 (rw suc-mul (omega (arith, t.0))) in
    omega arith

-- the two ends by the library's greater and smaller of two numbers
pub first_is : (all : Count) (n : ℕ) → Asked all
    → max (div_ceil (20 * (n * all.events) - all.flights * all.events) (20 * all.flights)) (least_of n) ≡ first_fit all n
first_is all n k = rw (rounded (20 * (n * all.events) - all.flights * all.events) (20 * all.flights) (omega (arith, k.some, k.within))) (omega arith)

pub end_is : (all : Count) (n : ℕ) {first : ℕ} → first ≡ first_fit all n
    → max (min ((20 * (n * all.events) + all.flights * all.events) / (20 * all.flights)) n + 1) first ≡ fit_end all n
end_is all n {first} e = rw e (omega arith)

module _ (all : Count) (n : ℕ) where
  abbrev N : ℕ
  N = all.flights

  abbrev N' : ℕ
  N' = all.events

  -- what is known of a count that fits
  record Fit (m : ℕ) : Type 0 where
    within : m ≤ n
    least : least_of n ≤ m
    enough : 20 * (n * N') ≤ 20 * (m * N) + N * N'
    few : 20 * (m * N) ≤ 20 * (n * N') + N * N'

  least_known : (m : ℕ) → (1 ≤ n → 1 ≤ m) → least_of n ≤ m
  least_known m h = test (eqb n 0) (λ t. rw t (omega arith)) (λ t. rw t (h (omega (arith, eqb-false n 0 t))))

  least_shown : (m : ℕ) → least_of n ≤ m → 1 ≤ n → 1 ≤ m
  least_shown m h g = rw (ne_eqb n 0 (λ e. omega arith)) at h

  known : (m : ℕ) → fits all n m ≡ true → Fit m
  known m h =
      let a = both (leb m n) _ h in
      let s = share_known all (record { flights = n; events = m }) a.1 in
      record { within = leb-true m n a.0; least = least_known m s.measured; enough = omega (arith, s.near); few = omega (arith, s.near) }

  shown : (m : ℕ) → Fit m → fits all n m ≡ true
  shown m f =
      rw (le-leb m n f.within)
      (share_shown all (record { flights = n; events = m })
      (record { measured = least_shown m f.least; near = omega (arith, f.enough, f.few) }))

  -- two that fit are at most a tenth of N' apart
  apart : (l d : ℕ) → 1 ≤ N → Fit l → Fit (l + d) → 10 * d ≤ N'
  apart l d h p q = le_of_mul-le-mul_right {k = N} (omega (arith, p.enough, q.few)) h

  module _ (k : Asked all) where
    unit_positive : 0 < 20 * N
    unit_positive = omega (arith, k.some, k.within)

    -- twenty N times a count
    units : (m : ℕ) → m * (20 * N) ≡ 20 * (m * N)
    units m = omega arith

    first_least : (m : ℕ) → Fit m → first_fit all n ≤ m
    first_least m f =
        let r = rounded_up (20 * N) (20 * (n * N') - N * N') m unit_positive (omega (arith, units m, f.enough)) in
        omega (arith, f.least)

    end_above : (m : ℕ) → Fit m → m < fit_end all n
    end_above m f =
        let r : m ≤ (20 * (n * N') + N * N') / (20 * N) = (le-div_iff_mul-le {k = 20 * N} {x = m} unit_positive).1 (omega (arith, units m, f.few)) in
        omega (arith, f.within)

    between_fits : (m : ℕ) → first_fit all n ≤ m → m < fit_end all n → Fit m
    between_fits m h g =
        let low = from_rounded (20 * N) (20 * (n * N') - N * N') m unit_positive (omega arith) in
        let high = (le-div_iff_mul-le {k = 20 * N} {x = m} {y = 20 * (n * N') + N * N'} unit_positive).0 (omega arith) in
        record {
          within = omega arith;
          least = omega arith;
          enough = omega (arith, low, units m);
          few = omega (arith, high, units m);
        }

    refuted : (m : ℕ) → (Fit m → ⊥) → fits all n m ≡ false
    refuted m h = test (fits all n m) (λ t. absurd (h (known m t))) (λ t. t)

    narrow : fit_end all n ≤ first_fit all n + most_fit
    narrow = test (ltb (first_fit all n) (fit_end all n)) wide (λ t. omega (arith, ltb-false (first_fit all n) (fit_end all n) t))
      where
        wide : ltb (first_fit all n) (fit_end all n) ≡ true → fit_end all n ≤ first_fit all n + most_fit
        wide t =
            let l : first_fit all n < fit_end all n = ltb-true (first_fit all n) (fit_end all n) t in
            let d = (fit_end all n - 1) - first_fit all n in
            let a = apart (first_fit all n) d (omega (arith, k.some, k.within))
            (between_fits (first_fit all n) (omega arith) l)
            (between_fits (first_fit all n + d) (omega arith) (omega arith)) in
            omega (arith, a, k.within, k.small)

    pub between : Between (fits all n) (first_fit all n) (fit_end all n)
    between =
        record {
          ordered = omega arith;
          narrow = narrow;
          below = λ m h. refuted m (λ f. omega (arith, first_least m f));
          inside = λ m h g. shown m (between_fits m h g);
          above = λ m h. refuted m (λ f. omega (arith, end_above m f));
        }
