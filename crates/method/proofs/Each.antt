-- A condition on each of the first classes: class by class, and the first class apart; the condition on the shares is one.
use mathlib.Core.Path.{◌≡◌, refl, ap, sym, ◌∙◌}
use mathlib.Core.Bool.{Bool, true, false, ◌&&◌}
use Prim.Native.Nat.{ℕ, zero, suc, ◌<◌}
use native.Mathlib.Omega.{arith}
use borrow.Author.Tests.{eqb-true, eqb-false}
use lib.Dec.{eqb}
use Rattle.quantity.proofs.Tests.{test, both}
use Rattle.method.specs.Method.{share_holds, shares_hold, on_each_class}
use Rattle.method.specs.declared.Count.{Count}

module _ (holds : Count → Bool) where
  pub each_known : (class : ℕ → Count) (n : ℕ) → on_each_class holds class n ≡ true → (k : ℕ) → k < n → holds (class k) ≡ true
  unfolding on_each_class
  each_known class zero e k h = absurd (omega arith)
  each_known class (suc n) e k h =
      let both_hold = both (holds (class n)) _ e in
      test (eqb k n) (λ t. rw (eqb-true k n t) both_hold.0) (λ t. each_known class n both_hold.1 k (omega (arith, eqb-false k n t)))

  pub each_shown : (class : ℕ → Count) (n : ℕ) → ((k : ℕ) → k < n → holds (class k) ≡ true) → on_each_class holds class n ≡ true
  unfolding on_each_class
  each_shown class zero h = refl
  each_shown class (suc n) h = rw (h n (omega arith)) (each_shown class n (λ k l. h k (omega arith)))

  swap : (a b c : Bool) → (a && (b && c)) ≡ (b && (a && c))
  swap true b c = refl
  swap false true c = refl
  swap false false c = refl

  pub first_class : (class : ℕ → Count) (n : ℕ) → on_each_class holds class (suc n) ≡ (holds (class 0) && on_each_class holds (λ k. class (suc k)) n)
  unfolding on_each_class
  first_class class zero = refl
  first_class class (suc n) = rw (first_class class n) (swap (holds (class (suc n))) (holds (class 0)) (on_each_class holds (λ k. class (suc k)) n))

-- the condition of method two is such a condition
module _ (all : Count) where
  pub shares_each : (class : ℕ → Count) (k : ℕ) → shares_hold all class k ≡ on_each_class (share_holds all) class k
  unfolding shares_hold on_each_class
  shares_each class zero = refl
  shares_each class (suc k) = ap (λ b. share_holds all (class k) && b) (shares_each class k)

  pub shares_known : (class : ℕ → Count) (n : ℕ) → shares_hold all class n ≡ true → (k : ℕ) → k < n → share_holds all (class k) ≡ true
  shares_known class n e = each_known (share_holds all) class n (sym (shares_each class n) ∙ e)

  pub shares_shown : (class : ℕ → Count) (n : ℕ) → ((k : ℕ) → k < n → share_holds all (class k) ≡ true) → shares_hold all class n ≡ true
  shares_shown class n h = shares_each class n ∙ each_shown (share_holds all) class n h

  pub first_share : (class : ℕ → Count) (n : ℕ) → shares_hold all class (suc n) ≡ (share_holds all (class 0) && shares_hold all (λ k. class (suc k)) n)
  first_share class n =
      shares_each class (suc n) ∙ first_class (share_holds all) class n ∙ ap (λ b. share_holds all (class 0) && b) (sym (shares_each (λ k. class (suc k)) n))
