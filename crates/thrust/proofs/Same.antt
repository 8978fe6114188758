-- Rows that agree at the first places give the same level: nothing else of them is read.
use Prim.Native.Nat.{ℕ, zero, suc, ◌-◌, ◌≤◌, ◌<◌}
use native.Mathlib.Omega.{arith}
use mathlib.Core.Path.{◌≡◌, refl, sym, ap, ◌∙◌}
use mathlib.Core.Bool.{Bool, true, false, cond}
use mathlib.Core.List.{List}
use lib.Dec.{eqb}
use lib.ListN.{length, take}
use Rattle.std.proofs.lemmas.List.{length-take-le, get_or-take}
use lib.Ieee.{Float}
use borrow.Author.Tests.{eqb-false}
use Rattle.quantity.specs.Rules.{Rule, first_of, Outcome, outcome}
use Rattle.quantity.proofs.Tests.{test}
use Rattle.thrust.specs.Rows.{row_at, every, in_range, rises, fit, thrust_rules, lower_place, level_from, level_between, level_at_thrust}
use Rattle.thrust.specs.Laws.{Alike, FirstRowsAlone, ExactAtRows}
use Rattle.thrust.specs.declared.Row.{Row}
use Rattle.thrust.proofs.Walking.{lower_inside}
use Rattle.thrust.proofs.Fit.{fit_rows}
use Rattle.thrust.proofs.Answering.{unfit}

every_same : (p q : ℕ → Bool) (n : ℕ) → ((k : ℕ) → k < n → p k ≡ q k) → every p n ≡ every q n
unfolding every
every_same p q zero h = refl
every_same p q (suc n) h = rw (h n (omega arith), every_same p q n (λ k l. h k (omega arith)))

module _ (rows others : List Row) (F : Float) where
  lower_same : (n : ℕ) → ((k : ℕ) → k ≤ n → row_at rows k ≡ row_at others k) → lower_place rows F n ≡ lower_place others F n
  unfolding lower_place
  lower_same zero h = refl
  lower_same (suc n) h = rw (h (suc n) (omega arith), lower_same n (λ k l. h k (omega arith)))

  from_same : (last k : ℕ) → k ≤ last → ((j : ℕ) → j ≤ last → row_at rows j ≡ row_at others j) → level_from rows last F k ≡ level_from others last F k
  from_same last k l h = go (eqb k last) refl where
    go : (b : Bool) → eqb k last ≡ b
        → cond b (row_at rows k).level (level_between (row_at rows k) (row_at rows (suc k)) F)
        ≡ cond b (row_at others k).level (level_between (row_at others k) (row_at others (suc k)) F)
    go true e = rw (h k l)
    go false e = rw (h k l, h (suc k) (omega (arith, l, eqb-false k last e)))

  fit_same : (count : ℕ) → Alike rows others count → fit rows count ≡ fit others count
  unfolding fit
  fit_same count h =
      rw (
        every_same (λ k. in_range (row_at rows k)) (λ k. in_range (row_at others k)) count (λ k l. ap in_range (h k l)),
        every_same (rises rows) (rises others) (count - 1) (λ k l. rw (h k (omega arith), h (suc k) (omega arith))),
      )

  same_level : (count : ℕ) → Alike rows others count → level_at_thrust rows count F ≡ level_at_thrust others count F
  same_level count h = test (fit rows count) fitting unfitting where
    fitting : fit rows count ≡ true → level_at_thrust rows count F ≡ level_at_thrust others count F
    fitting f =
        let t = fit_rows rows count f in
        let up_to_last : (k : ℕ) → k ≤ count - 1 → row_at rows k ≡ row_at others k = λ k l. h k (omega (arith, t.some_rows, l)) in
        let rules : thrust_rules rows count F ≡ thrust_rules others count F = rw (fit_same count h, up_to_last 0 (omega arith), up_to_last (count - 1) (omega arith)) in
        let level : level_from rows (count - 1) F (lower_place rows F (count - 1)) ≡ level_from others (count - 1) F (lower_place others F (count - 1)) =
        from_same (count - 1) (lower_place rows F (count - 1)) (lower_inside rows F (count - 1)) up_to_last
        ∙ ap (level_from others (count - 1) F) (lower_same (count - 1) up_to_last)
        in
        ap (λ (rs : List Rule). outcome (first_of rs) (level_from rows (count - 1) F (lower_place rows F (count - 1)))) rules
        ∙ ap (outcome (first_of (thrust_rules others count F))) level

    unfitting : fit rows count ≡ false → level_at_thrust rows count F ≡ level_at_thrust others count F
    unfitting f = sym (unfit rows count F f) ∙ unfit others count F (sym (fit_same count h) ∙ f)

pub first_rows_alone : FirstRowsAlone
first_rows_alone rows others count F = same_level rows others F count

-- the first rows by themselves
pub by_first_rows : (rows : List Row) (count : ℕ) (F : Float) → count ≤ length rows → level_at_thrust (take count rows) (length (take count rows)) F ≡ level_at_thrust rows count F
by_first_rows rows count F h =
    rw (length-take-le count rows h) (first_rows_alone (take count rows) rows count F (λ k l. get_or-take count rows k _ l))

-- what is exact at the rows of one is exact at those of the other
pub exact_alike : (rows others : List Row) (count : ℕ) (F : Float) {answer : Outcome Float} → Alike rows others count → ExactAtRows rows count F answer → ExactAtRows others count F answer
exact_alike rows others count F h exact k f l e =
    let at = exact k (fit_same rows others F count h ∙ f) l (rw (h k l) e) in
    record { level = at.level; is_given = at.is_given; equal = rw (← h k l) at.equal; last = λ q. at.last q ∙ ap (λ (row : Row). row.level) (h k l) }
