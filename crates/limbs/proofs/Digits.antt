-- The limbs of a number, and numbers that are kept in k limbs: what is known of a run of limbs exactly.
use Prim.Native.Nat.{ℕ, suc, zero, ◌+◌, ◌*◌, ◌/◌, ◌%◌, ◌^◌, ◌<◌}
use mathlib.Core.Path.{◌≡◌, refl, ap, ap₂, sym, ◌∙◌}
use mathlib.Core.List.{List, [], ◌∷◌, ◌++◌}
use native.Mathlib.Nat.{add-mul, add-zero, mul_assoc, mul_right_comm, zero-mul, pow-zero, pow-suc, one-le-pow, mod-eq_of_lt, div-add-mod', add_comm}
use native.Mathlib.Omega.{arith}
use lib.Arith.{mod-mul}
use lib.ListN.{length, replicate, length-append, length-replicate}
use Rattle.limbs.specs.Value.{base, value, limbs_of}
use Rattle.limbs.proofs.Value.{Limbs, value_filled}

pub length_limbs_of : (k n : ℕ) → length (limbs_of k n) ≡ k
unfolding limbs_of
length_limbs_of zero n = refl
length_limbs_of (suc k) n = ap suc (length_limbs_of k (n / base))

-- a run of limbs, with c carried out of it, is the lowest limbs of the whole
pub digits : (a : List ℕ) → Limbs a → (n c : ℕ) → value a + c * base ^ length a ≡ n → a ≡ limbs_of (length a) n
unfolding value limbs_of
digits [] f n c e = refl
digits (x ∷ xs) f n c e =
    let W = base ^ length xs in
    let h : x + base * value xs + c * W * base ≡ n = rw (pow-suc, ← mul_assoc) at e in
    let r : x ≡ n % base = omega (arith, f 0) in
    let q : value xs + c * W ≡ n / base = omega (arith, f 0) in
    ap₂ (λ (y : ℕ) (ys : List ℕ). y ∷ ys) r (digits xs (λ j. f (suc j)) (n / base) c q)

pub limbs_of_value : (a : List ℕ) → Limbs a → limbs_of (length a) (value a) ≡ a
limbs_of_value a f = sym (digits a f (value a) 0 (rw (zero-mul, add-zero) refl))

-- a run of limbs is known by its length and its number
pub limbs_exact : (a : List ℕ) → Limbs a → (k n : ℕ) → length a ≡ k → value a ≡ n → a ≡ limbs_of k n
limbs_exact a f k n l e = sym (limbs_of_value a f) ∙ ap₂ limbs_of l e

-- limbs that are filled up with 0
pub filled : (a : List ℕ) (i : ℕ) {k : ℕ} → Limbs (a ++ replicate i 0) → length a + i ≡ k → a ++ replicate i 0 ≡ limbs_of k (value a)
filled a i {k} f e = limbs_exact (a ++ replicate i 0) f k (value a) (omega (arith, length-append a (replicate i 0), length-replicate {A = ℕ} i 0)) (value_filled a i)

pub value_limbs_of : (k n : ℕ) → value (limbs_of k n) ≡ n % base ^ k
unfolding value limbs_of
value_limbs_of zero n = rw pow-zero (omega arith)
value_limbs_of (suc k) n =
    rw (pow-suc, mod-mul n {m = base ^ k} {c = base} (one-le-pow k base (omega arith)) (omega arith), value_limbs_of k (n / base))
    (omega arith)

-- a number that has room in k limbs
pub value_limbs_of_whole : (k n : ℕ) → n < base ^ k → value (limbs_of k n) ≡ n
value_limbs_of_whole k n h = value_limbs_of k n ∙ mod-eq_of_lt h

-- the k lowest limbs do not see a multiple of base ^ k
limbs_of_shift : (k m q : ℕ) → limbs_of k (m + q * base ^ k) ≡ limbs_of k m
unfolding limbs_of
limbs_of_shift zero m q = refl
limbs_of_shift (suc k) m q =
    let P = q * base ^ k in
    let d : (m + P * base) % base ≡ m % base = omega arith in
    let r : (m + P * base) / base ≡ m / base + P = omega arith in
    rw (pow-suc, ← mul_assoc q (base ^ k) base, d, r) (ap (λ (l : List ℕ). m % base ∷ l) (limbs_of_shift k (m / base) q))

-- a sum, and a product, of a number that is kept in k limbs
module _ (k n x : ℕ) where
  pub limbs_of_add : limbs_of k (value (limbs_of k n) + x) ≡ limbs_of k (n + x)
  limbs_of_add =
      let e : n + x ≡ n % base ^ k + x + n / base ^ k * base ^ k = omega (arith, div-add-mod' n (base ^ k)) in
      rw (value_limbs_of k n, e) (sym (limbs_of_shift k (n % base ^ k + x) (n / base ^ k)))

  pub limbs_of_mul : limbs_of k (value (limbs_of k n) * x) ≡ limbs_of k (n * x)
  limbs_of_mul =
      let W = base ^ k in
      let p : n / W * W * x + n % W * x ≡ n * x = sym (add-mul (n / W * W) (n % W) x) ∙ ap (λ (m : ℕ). m * x) (div-add-mod' n W) in
      let e : n * x ≡ n % W * x + n / W * x * W = omega (arith, p, mul_right_comm (n / W) W x) in
      rw (value_limbs_of k n, e) (sym (limbs_of_shift k (n % W * x) (n / W * x)))

-- limbs to which a number modulo base ^ w is added
pub added_modulo : (w k l : ℕ) → k ≡ w → l ≡ w → (v n : ℕ) {a : List ℕ} → a ≡ limbs_of l n → limbs_of k (v + value a) ≡ limbs_of w (v + n)
added_modulo w k l hk hl v n h = rw (hk, h, hl, add_comm v (value (limbs_of w n)), limbs_of_add w n v, add_comm n v)
