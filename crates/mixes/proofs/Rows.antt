-- A row that is rewritten place by place, upwards or downwards.
use mathlib.Core.Path.{◌≡◌, refl, ap, sym, ◌∙◌}
use mathlib.Core.Bool.{true, false}
use mathlib.Core.List.{List}
use Prim.Native.Nat.{ℕ, ◌+◌, ◌≤◌, ◌<◌}
use native.Mathlib.Omega.{arith}
use lib.Dec.{eqb}
use lib.ListN.{length, get_or, set, length-set}
use lib.Seq.{get_or-set_same, get_or-set_other}
use borrow.Author.Tests.{eqb-true, eqb-false}
use Rattle.quantity.proofs.Tests.{test}

-- the places below i hold f, and the others what they held
pub record Upto (old row : List ℕ) (f : ℕ → ℕ) (i : ℕ) : Type 0 where
  pub within : i ≤ length old
  pub size : length row ≡ length old
  pub done : (s : ℕ) → s < i → get_or row s 0 ≡ f s
  pub kept : (s : ℕ) → i ≤ s → get_or row s 0 ≡ get_or old s 0

-- the places from i on hold f, and the others what they held
pub record Downto (old row : List ℕ) (f : ℕ → ℕ) (i : ℕ) : Type 0 where
  pub within : i ≤ length old
  pub size : length row ≡ length old
  pub done : (s : ℕ) → i ≤ s → s < length old → get_or row s 0 ≡ f s
  pub kept : (s : ℕ) → s < i → get_or row s 0 ≡ get_or old s 0

-- a place after a store: the stored one, or another
pub stored : (P : ℕ → Type 0) (row : List ℕ) (i v s : ℕ) → i < length row → (s ≡ i → P v) → ((s ≡ i → ⊥) → P (get_or row s 0)) → P (get_or (set row i v) s 0)
stored P row i v s h same other = test (eqb s i) here there
  where
    here : eqb s i ≡ true → P (get_or (set row i v) s 0)
    here t =
        let e : s ≡ i = eqb-true s i t in
        rw (e, get_or-set_same row i v 0 h) (same e)

    there : eqb s i ≡ false → P (get_or (set row i v) s 0)
    there t = rw (get_or-set_other row i s v 0 (eqb-false s i t)) (other (eqb-false s i t))

pub upto_start : (old : List ℕ) (f : ℕ → ℕ) → Upto old old f 0
upto_start old f = record { within = omega arith; size = refl; done = λ s h. absurd (omega arith); kept = λ s h. refl }

module _ {old row : List ℕ} {f : ℕ → ℕ} {i : ℕ} (p : Upto old row f i) where
  pub upto_more : (v : ℕ) → i < length row → v ≡ f i → Upto old (set row i v) f (i + 1)
  upto_more v h e =
      record {
        within = omega (arith, p.size);
        size = length-set row i v ∙ p.size;
        done = λ s l. stored (λ x. x ≡ f s) row i v s h (λ q. e ∙ ap f (sym q)) (λ q. p.done s (omega arith));
        kept = λ s l. stored (λ x. x ≡ get_or old s 0) row i v s h (λ q. absurd (omega arith)) (λ q. p.kept s (omega arith));
      }
