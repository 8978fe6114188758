-- A row that takes in one class after the other, from the last to the first.
use mathlib.Core.Path.{◌≡◌, refl, ap, sym, ◌∙◌}
use mathlib.Core.Bool.{Bool, true, false, cond}
use mathlib.Core.List.{List, [], ◌∷◌}
use Prim.Native.Nat.{ℕ, zero, suc, ◌-◌, ◌^◌, ◌≤◌, ◌<◌}
use native.Mathlib.Nat.{pow-suc, pow-le-pow_right}
use native.Mathlib.Omega.{arith}
use lib.Dec.{leb, lit<, eqb-suc-zero}
use lib.ListN.{length, get_or, drop}
use lib.Seq.{drop-cons, drop-length}
use borrow.Author.Tests.{leb-true, leb-false}
use Rattle.quantity.proofs.Tests.{test}
use Rattle.method.specs.declared.Count.{Count}
use Rattle.mixes.specs.Answers.{most_mixed_classes}
use Rattle.mixes.specs.Ways.{fits, sum_below, with_class, ways, no_class, most_fit, Between, cells, Tabulates, Rising, back}
use Rattle.mixes.proofs.Sums.{sum_none, sum_same, sum_up, window, bounded_more}

-- a row of sums rises
module _ (old : List ℕ) {row : List ℕ} (p : Tabulates row (length old) (λ s. sum_below (cells old) (suc s))) where
  pub sums_rise : Rising row
  sums_rise =
      record {
        at = λ i j h l.
            let g : j < length old = omega (arith, p.size) in
            omega (arith, p.at i (omega arith), p.at j g, sum_up (cells old) (suc i) (suc j) (omega arith));
      }

  -- what stands so many places before a place is a sum of as many terms less
  back_sum : (s steps : ℕ) → s < length old → back row s steps ≡ sum_below (cells old) (suc s - steps)
  back_sum s steps h = test (leb steps s) reached early
    where
      reached : leb steps s ≡ true → back row s steps ≡ sum_below (cells old) (suc s - steps)
      reached t =
          let l : steps ≤ s = leb-true steps s t in
          let e : suc s - steps ≡ suc (s - steps) = omega arith in
          rw (t, e) (p.at (s - steps) (omega arith))

      early : leb steps s ≡ false → back row s steps ≡ sum_below (cells old) (suc s - steps)
      early t =
          let l : s < steps = leb-false steps s t in
          let e : suc s - steps ≡ 0 = omega arith in
          rw (t, e) (sym (sum_none (cells old)))

  -- the differences of the sums are the lists of one class more
  pub class_added : {new : List ℕ} {first end : ℕ} → Tabulates new (length row) (λ s. back row s first - back row s end) → (fit : ℕ → Bool) → Between fit first end
      → Tabulates new (length old) (with_class fit (cells old))
  class_added {new} {first} {end} q fit b =
      record {
        size = q.size ∙ p.size;
        at = λ s h. omega (arith, q.at s (omega (arith, p.size)), back_sum s first h, back_sum s end h, window b (cells old) s);
      }

-- a row's places by its own length, and by another of the same length
pub whole : {row : List ℕ} {n : ℕ} {f : ℕ → ℕ} → Tabulates row n f → Tabulates row (length row) f
whole p = record { size = refl; at = λ s h. p.at s (omega (arith, p.size)) }

pub sized : {row : List ℕ} {m n : ℕ} {f : ℕ → ℕ} → m ≡ n → Tabulates row m f → Tabulates row n f
sized e p = record { size = p.size ∙ e; at = λ s h. p.at s (omega arith) }

-- one class more hangs on the numbers up to the sum alone
with_same : (fit : ℕ → Bool) (f g : ℕ → ℕ) (s : ℕ) → ((j : ℕ) → j ≤ s → f j ≡ g j) → with_class fit f s ≡ with_class fit g s
unfolding with_class
with_same fit f g s h = sum_same _ _ (suc s) (λ m l. ap (λ (x : ℕ). cond (fit m) x 0) (h (s - m) (omega arith)))

-- a row holds the lists of the classes from one on, and all its numbers fit
pub record From (all : Count) (flights row : List ℕ) (n class : ℕ) : Type 0 where
  pub within : class ≤ length flights
  pub few : length flights ≤ most_mixed_classes
  pub held : Tabulates row n (ways all (drop class flights))
  pub bound : (j : ℕ) → sum_below (ways all (drop class flights)) j ≤ most_fit ^ (length flights - class)

pub ways_none : (all : Count) (j : ℕ) → sum_below (ways all []) j ≤ 1
unfolding ways sum_below
ways_none all zero = omega arith
ways_none all (suc zero) = omega arith
ways_none all (suc (suc j)) = rw (eqb-suc-zero j) (omega (arith, ways_none all (suc j)))

pub from_start : (all : Count) (flights row : List ℕ) (n : ℕ) → length flights ≤ most_mixed_classes → Tabulates row n no_class → From all flights row n (length flights)
unfolding ways
from_start all flights row n h t =
    let e : length flights - length flights ≡ 0 = omega arith in
    record {
      within = omega arith;
      few = h;
      held = rw drop-length (record { size = t.size; at = t.at });
      bound = λ j. rw (drop-length, e) (ways_none all j);
    }

module _ {all : Count} {flights row : List ℕ} {n class : ℕ} (p : From all flights row n class) where
  -- the sum of a row fits 64 bits
  pub row_fits : sum_below (cells row) (length row) < 2 ^ 64
  row_fits =
      let e = sum_same (cells row) (ways all (drop class flights)) n p.held.at in
      let a = pow-le-pow_right {n = most_fit} (lit< tt) {i = length flights - class} {j = most_mixed_classes} (omega (arith, p.few)) in
      let b : most_fit ^ most_mixed_classes < 2 ^ 64 = lit< tt in
      rw p.held.size (omega (arith, e, p.bound n))

  pub from_more : {new : List ℕ} {first end : ℕ} → 0 < class → Between (fits all (get_or flights (class - 1) 0)) first end
      → ((fit : ℕ → Bool) → Between fit first end → Tabulates new (length row) (with_class fit (cells row)))
      → From all flights new n (class - 1)
  unfolding ways
  from_more {new} {first} {end} h b t =
      let e : suc (class - 1) ≡ class = omega arith in
      let d : drop (class - 1) flights ≡ get_or flights (class - 1) 0 ∷ drop class flights = rw (drop-cons flights (class - 1) 0 (omega (arith, p.within)), e) in
      let l : length flights - (class - 1) ≡ suc (length flights - class) = omega (arith, p.within) in
      let q = t _ b in
      record {
        within = omega (arith, p.within);
        few = p.few;
        held = rw d
            (record {
              size = q.size ∙ p.held.size;
              at = λ s g. q.at s (omega (arith, p.held.size)) ∙ with_same _ (cells row) (ways all (drop class flights)) s (λ j i. p.held.at j (omega arith));
            });
        bound = λ j. rw (d, l, pow-suc) (bounded_more b (ways all (drop class flights)) (most_fit ^ (length flights - class)) p.bound j);
      }
