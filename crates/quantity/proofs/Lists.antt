-- Lists: what holds for each entry of one, lists of one and the same entry, and chunks of one.
use Rattle.std.proofs.Common.{◌≡◌, ℕ, zero, suc, ◌+◌, ◌*◌, ◌<◌, List, [], ◌∷◌, get_or, set, take, drop, replicate, refl, ap, ◌∙◌}
use Rattle.std.specs.Simd.{first_chunks}
use native.Mathlib.Omega.{arith}
use lib.Seq.{drop-drop}
use Rattle.quantity.specs.Lists.{Each}

pub each_map : {A : Type 0} {P Q : A → Type 0} → ((x : A) → P x → Q x) → (xs : List A) → Each P xs → Each Q xs
each_map f [] e = tt
each_map f (x ∷ xs) e = (f x e.0, each_map f xs e.1)

-- what holds for each entry holds for the one at a place, if it holds for what stands behind the end; for each entry of a list with one entry set; and of a list
-- of one and the same entry
module _ {A : Type 0} (P : A → Type 0) where
  pub each_at : (xs : List A) (k : ℕ) (d : A) → Each P xs → P d → P (get_or xs k d)
  each_at [] k d e h = h
  each_at (y ∷ ys) zero d e h = e.0
  each_at (y ∷ ys) (suc k) d e h = each_at ys k d e.1 h

  pub each_set : (xs : List A) (k : ℕ) (x : A) → Each P xs → P x → Each P (set xs k x)
  each_set [] k x e h = tt
  each_set (y ∷ ys) zero x e h = (h, e.1)
  each_set (y ∷ ys) (suc k) x e h = (e.0, each_set ys k x e.1 h)

  pub each_same : (n : ℕ) (x : A) → P x → Each P (replicate n x)
  each_same zero x h = tt
  each_same (suc n) x h = (h, each_same n x h)

-- read with that entry behind its end, such a list has it at every place
pub same_at : {A : Type 0} (x : A) (n k : ℕ) → get_or (replicate n x) k x ≡ x
same_at x zero k = refl
same_at x (suc n) zero = refl
same_at x (suc n) (suc k) = same_at x n k

pub zero_at : (n k : ℕ) → ◌≡◌ {A = ℕ} (get_or (replicate n 0) k 0) 0
zero_at = same_at 0

-- a chunk of a list by its place
pub chunk_at : {A : Type 0} (n k : ℕ) (xs : List A) (i : ℕ) → i < k → get_or (first_chunks n k xs) i [] ≡ take n (drop (i * n) xs)
chunk_at n zero xs i h = absurd (omega arith)
chunk_at n (suc k) xs zero h = let e : zero * n ≡ 0 = omega arith in rw e refl
chunk_at n (suc k) xs (suc i) h =
    let e : n + i * n ≡ suc i * n = omega arith in
    chunk_at n k (drop n xs) i (omega arith) ∙ ap (take n) (drop-drop (i * n) n xs ∙ ap (λ (j : ℕ). drop j xs) e)
