-- What a call answers by the rule.
use mathlib.Core.Path.{◌≡◌, refl, sym, ap, ◌∙◌}
use mathlib.Core.Bool.{true, false, or-true}
use mathlib.Core.List.{List}
use Prim.Native.Nat.{ℕ}
use native.Mathlib.Omega.{arith}
use lib.ListN.{length, replicate, length-replicate}
use Rattle.quantity.specs.Rules.{Outcome, refused, given}
use Rattle.quantity.proofs.Refusing.{stops, passes}
use Rattle.pairing.specs.Pairing.{Marks, Largest}
use Rattle.pairing.specs.Answers.{unfit, pairing_rules, Answered, untouched, paired}

module _ {movements peaks : List ℕ} {tolerance : ℕ} {lent : Marks} where
  pub unfit_movements : unfit movements lent.movements ≡ true → Answered movements peaks tolerance lent (refused 19) lent
  unfit_movements a = untouched (sym (stops 0 (pairing_rules movements peaks lent) (rw a)))

  pub unfit_peaks : unfit peaks lent.peaks ≡ true → Answered movements peaks tolerance lent (refused 19) lent
  unfit_peaks b = untouched (sym (stops 0 (pairing_rules movements peaks lent) (rw b (or-true (unfit movements lent.movements)))))

  pub answered : unfit movements lent.movements ≡ false → unfit peaks lent.peaks ≡ false → {marks : Marks} {count : ℕ}
      → Largest movements peaks tolerance marks count → Answered movements peaks tolerance lent (given count) marks
  answered a b largest = paired (sym (passes (pairing_rules movements peaks lent) (rw (a, b) refl, tt))) largest

  -- a refused call leaves the marks that it was lent
  pub kept : {answer : Outcome ℕ} {left : Marks} {n : ℕ} → Answered movements peaks tolerance lent answer left → answer ≡ refused n → left ≡ lent
  kept (untouched r) e = refl
  kept (paired r l) e = let z : ◌≡◌ {A = ℕ} 0 1 = cc in absurd (omega arith)

-- marks that are cleared are as many as before
pub still_fit : (times marks cleared : List ℕ) → unfit times marks ≡ false → cleared ≡ replicate (length marks) 0 → unfit times cleared ≡ false
unfolding unfit
still_fit times marks cleared h e =
    let l : length cleared ≡ length marks = ap length e ∙ length-replicate (length marks) 0 in
    rw l h
