-- The condition on the shares, on a list of classes.
use mathlib.Core.Path.{◌≡◌, refl, sym, ap, ◌∙◌}
use mathlib.Core.Bool.{Bool, true, false, ◌||◌}
use Prim.Native.Nat.{ℕ, zero, suc, ◌+◌, ◌*◌, ◌≤◌}
use native.Mathlib.Omega.{arith}
use borrow.Author.Tests.{le-leb, leb-true, eqb-true, eqb-false}
use lib.Dec.{leb, eqb}
use Rattle.quantity.specs.Numbers.{distance}
use Rattle.quantity.proofs.Tests.{test, both}
use Rattle.method.specs.declared.Count.{Count}
use Rattle.std.specs.List.{list_all, range_with_len}
use Rattle.method.proofs.Each.{first_share}
use Rattle.method.specs.Method.{is_measured, share_holds, shares_hold}

-- the condition on each of n classes from one on, as a test of their list
shares_same : (all : Count) {class class' : ℕ → Count} (n : ℕ) → ((k : ℕ) → class k ≡ class' k) → shares_hold all class n ≡ shares_hold all class' n
unfolding shares_hold
shares_same all zero e = refl
shares_same all (suc n) e = rw (e n, shares_same all n e)

shares_from : (all : Count) (class : ℕ → Count) (a n : ℕ) → list_all (λ k. share_holds all (class k)) (range_with_len a n) ≡ shares_hold all (λ k. class (a + k)) n
unfolding shares_hold
shares_from all class a zero = refl
shares_from all class a (suc n) =
    let here : class (a + 0) ≡ class a = ap class (omega arith) in
    let behind = shares_from all class (a + 1) n ∙ shares_same all n (λ k. ap class (omega arith)) in
    rw behind (rw here at (sym (first_share all (λ k. class (a + k)) n)))

pub shares_listed : (all : Count) (class : ℕ → Count) (n : ℕ) → list_all (λ k. share_holds all (class k)) (range_with_len 0 n) ≡ shares_hold all class n
shares_listed all class n = shares_from all class 0 n ∙ shares_same all n (λ k. ap class (omega arith))

-- what the condition on a class says, in numbers
measured_known : (c : Count) → is_measured c ≡ true → 1 ≤ c.flights → 1 ≤ c.events
measured_known c = go (eqb c.flights 0) refl
  where
    go : (b : Bool) → eqb c.flights 0 ≡ b → (b || leb 1 c.events) ≡ true → 1 ≤ c.flights → 1 ≤ c.events
    go true t e h = absurd (omega (arith, eqb-true c.flights 0 t))
    go false t e h = leb-true 1 c.events e

measured_shown : (c : Count) → (1 ≤ c.flights → 1 ≤ c.events) → is_measured c ≡ true
measured_shown c h = test (eqb c.flights 0) (λ t. rw t) (λ t. rw t (le-leb 1 c.events (h (omega (arith, eqb-false c.flights 0 t)))))

module _ (all c : Count) where
  pub record ShareHolds : Type 0 where
    pub measured : 1 ≤ c.flights → 1 ≤ c.events
    pub near : 20 * distance (c.events * all.flights) (c.flights * all.events) ≤ all.flights * all.events

  pub share_known : share_holds all c ≡ true → ShareHolds
  share_known e =
      let b = both (is_measured c) _ e in
      record { measured = measured_known c b.0; near = leb-true _ _ b.1 }

  pub share_shown : ShareHolds → share_holds all c ≡ true
  share_shown h = rw (measured_shown c h.measured) (le-leb _ _ h.near)
