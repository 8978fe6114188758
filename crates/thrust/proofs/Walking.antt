-- One place at a time, from the last one down.
use Prim.Native.Nat.{ℕ, zero, suc, ◌-◌, ◌≤◌, ◌<◌}
use mathlib.Core.Path.{◌≡◌, refl, sym, ap, ◌∙◌}
use mathlib.Core.Bool.{Bool, true, false, cond, ◌&&◌}
use mathlib.Core.List.{List, [], ◌∷◌, reverse, reverse-cons}
use mathlib.Core.Logic.{inl, inr}
use native.Mathlib.Nat.{eq-or-lt_of_le, le_of_suc-le-suc}
use native.Mathlib.Omega.{arith}
use native.Mathlib.Numerals.{add-one, sub-one}
use lib.ListN.{length}
use Rattle.std.proofs.lemmas.List.Folds.{list_all-append}
use Rattle.std.proofs.lemmas.Bool.{true≢false}
use Rattle.std.specs.List.{list_all, IsAllAdjacentAnswer}
use lib.Ieee.{Float, le, lt}
use Rattle.quantity.proofs.Tests.{test, both}
use Rattle.thrust.specs.Rows.{row_at, every, rises, lower_place}
use Rattle.thrust.specs.Laws.{LastAtMost, LowerIsLast}
use Rattle.thrust.specs.declared.Row.{Row}

back : (a b : Bool) → (a && (b && true)) ≡ (b && a)
back true true = refl
back true false = refl
back false true = refl
back false false = refl

swap : (a b c : Bool) → (a && (b && c)) ≡ (b && (a && c))
swap true b c = refl
swap false true c = refl
swap false false c = refl

-- ---- a test at each place

module _ (p : ℕ → Bool) where
  pub step : (n : ℕ) → 0 < n → every p n ≡ p (n - 1) && every p (n - 1)
  unfolding every
  step zero h = absurd (omega arith)
  step (suc n) h = rw (sub-one (suc n))

  pub every_at : (n : ℕ) → every p n ≡ true → (k : ℕ) → k < n → p k ≡ true
  unfolding every
  every_at zero h k l = absurd (omega arith)
  every_at (suc n) h k l =
      elim (eq-or-lt_of_le (le_of_suc-le-suc l)) [
        | inl e ↦ rw e (both (p n) (every p n) h).0
        | inr g ↦ every_at n (both (p n) (every p n) h).1 k g
      ]

  pub every_shown : (n : ℕ) → ((k : ℕ) → k < n → p k ≡ true) → every p n ≡ true
  unfolding every
  every_shown zero h = refl
  every_shown (suc n) h = rw (h n (omega arith)) (every_shown n (λ k l. h k (omega arith)))

  pub every_broken : (n k : ℕ) → k < n → p k ≡ false → every p n ≡ false
  every_broken n k l e = test (every p n) (λ t. absurd (true≢false (sym (every_at n t k l) ∙ e))) (λ f. f)

  -- from the front
  every_front : (n : ℕ) → every p (suc n) ≡ (p 0 && every (λ k. p (suc k)) n)
  unfolding every
  every_front zero = refl
  every_front (suc n) = rw (every_front n) (swap (p (suc n)) (p 0) (every (λ k. p (suc k)) n))

both_parts : (a b c d : Bool) → (a && b) && (c && d) ≡ (a && c) && (b && d)
both_parts true true c d = refl
both_parts true false true d = refl
both_parts true false false d = refl
both_parts false b c d = refl

-- two tests in one walk
pub every_both : (p q : ℕ → Bool) (n : ℕ) → every (λ k. p k && q k) n ≡ every p n && every q n
unfolding every
every_both p q zero = refl
every_both p q (suc n) = ap (λ (b : Bool). (p n && q n) && b) (every_both p q n) ∙ both_parts (p n) (q n) (every p n) (every q n)

-- a test of each row, and of each row and the next
pub every_row : (q : Row → Bool) (rows : List Row) → list_all q rows ≡ every (λ k. q (row_at rows k)) (length rows)
unfolding every
every_row q [] = refl
every_row q (row ∷ rows) = ap (λ (b : Bool). q row && b) (every_row q rows) ∙ sym (every_front (λ k. q (row_at (row ∷ rows) k)) (length rows))

-- from the back it is the same
pub every_row_back : (q : Row → Bool) (rows : List Row) → list_all q (reverse rows) ≡ every (λ k. q (row_at rows k)) (length rows)
every_row_back q rows = go rows ∙ every_row q rows where
  go : (rows : List Row) → list_all q (reverse rows) ≡ list_all q rows
  go [] = refl
  go (row ∷ rows) = ap (list_all q) (reverse-cons row rows) ∙ list_all-append q (reverse rows) (row ∷ []) ∙ rw (go rows) (back (list_all q rows) (q row))

pub every_next : (rows : List Row) (r : Bool) → IsAllAdjacentAnswer (λ x y b. b ≡ lt x.thrust y.thrust) rows r → r ≡ every (rises rows) (length rows - 1)
every_next rows true h = sym (every_shown (rises rows) (length rows - 1) (λ k l. sym (rw add-one at (h k (row_at [] 0) (omega arith)))))
every_next rows false h = sym (every_broken (rises rows) (length rows - 1) h.0 (omega (arith, h.1)) (sym (rw add-one at (h.2 (row_at [] 0)))))

-- ---- the lower row

module _ (rows : List Row) (F : Float) where
  pub lower_here : (n : ℕ) → le (row_at rows n).thrust F ≡ true → lower_place rows F n ≡ n
  unfolding lower_place
  lower_here zero e = refl
  lower_here (suc n) e = rw e

  pub lower_below : (n : ℕ) → 0 < n → le (row_at rows n).thrust F ≡ false → lower_place rows F n ≡ lower_place rows F (n - 1)
  unfolding lower_place
  lower_below zero h e = absurd (omega arith)
  lower_below (suc n) h e = rw (e, sub-one (suc n))

-- it is found from the end: it passes, and none behind it does; or none does
module _ (rows : List Row) (F : Float) where
  pub lower_found : (n i : ℕ) → i ≤ n → le (row_at rows i).thrust F ≡ true → ((k : ℕ) → i < k → k ≤ n → le (row_at rows k).thrust F ≡ false) → lower_place rows F n ≡ i
  unfolding lower_place
  lower_found zero i h e later = omega arith
  lower_found (suc n) i h e later =
      elim (eq-or-lt_of_le h) [
        | inl q ↦ rw q at (lower_here rows F i e) ∙ omega arith
        | inr g ↦ rw (later (suc n) g (omega arith)) (lower_found n i (le_of_suc-le-suc g) e (λ k a b. later k a (omega arith)))
      ]

  pub lower_nowhere : (n : ℕ) → ((k : ℕ) → k ≤ n → le (row_at rows k).thrust F ≡ false) → lower_place rows F n ≡ 0
  unfolding lower_place
  lower_nowhere zero h = refl
  lower_nowhere (suc n) h = rw (h (suc n) (omega arith)) (lower_nowhere n (λ k a. h k (omega arith)))

pub lower_inside : (rows : List Row) (F : Float) (n : ℕ) → lower_place rows F n ≤ n
unfolding lower_place
lower_inside rows F zero = omega arith
lower_inside rows F (suc n) = go (le (row_at rows (suc n)).thrust F) (lower_inside rows F n) where
  go : (b : Bool) → lower_place rows F n ≤ n → cond b (suc n) (lower_place rows F n) ≤ suc n
  go true h = omega arith
  go false h = omega arith

-- it is the last whose thrust is at most F
pub lower_is_last : LowerIsLast
unfolding lower_place
lower_is_last rows F zero e = record { inside = omega arith; at_most = e; later = λ j h l. absurd (omega arith) }
lower_is_last rows F (suc n) e = go (le (row_at rows (suc n)).thrust F) refl (lower_is_last rows F n e) where
  go : (b : Bool) → le (row_at rows (suc n)).thrust F ≡ b → LastAtMost rows F n (lower_place rows F n) → LastAtMost rows F (suc n) (cond b (suc n) (lower_place rows F n))
  go true q t = record { inside = omega arith; at_most = q; later = λ j h l. absurd (omega arith) }
  go false q t = record {
    inside = omega (arith, t.inside);
    at_most = t.at_most;
    later = λ j h l. elim (eq-or-lt_of_le l) [ inl e ↦ rw e q | inr g ↦ t.later j h (le_of_suc-le-suc g) ];
  }
