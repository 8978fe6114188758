-- A pass in place from the lowest limb up, with a carry: what `scale`, `add` and `load` have in common.
use Prim.Native.Nat.{ℕ, ◌+◌, ◌*◌, ◌^◌, ◌≤◌, ◌<◌}
use mathlib.Core.Path.{◌≡◌, refl, ap, sym, ◌∙◌}
use mathlib.Core.List.{List}
use native.Mathlib.Nat.{add-mul, add-zero, mul_assoc, mul_comm, pow-suc, mul-le-mul}
use native.Mathlib.Numerals.{add-one}
use native.Mathlib.Omega.{arith}
use lib.ListN.{length, take, drop, get_or, set, length-set}
use lib.Seq.{get_or-drop, drop-drop, drop-set-lt, take_all}
use Rattle.limbs.specs.Value.{base, value, limbs_of}
use Rattle.limbs.proofs.Value.{Limbs, limbs_set, value_none, value_take_set}
use Rattle.limbs.proofs.Digits.{digits}

-- a product of two limbs leaves room for a third
pub product : (a b : ℕ) → a < base → b < base → a * b ≤ 4294967295 * 4294967295
product a b p q = mul-le-mul {n₁ = a} {m₁ = b} {n₂ = 4294967295} {m₂ = 4294967295} (omega arith) (omega arith)

-- `a₀` has become `a` below i: with the carry, the i lowest limbs are the number `target i`; the others are as they were
pub record Carried (target : ℕ → ℕ) (a₀ a : List ℕ) (carry i : ℕ) : Type 0 where
  pub within : i ≤ length a
  pub size : length a ≡ length a₀
  pub rest : drop i a ≡ drop i a₀
  pub limbs : Limbs a
  pub sum : value (take i a) + carry * base ^ i ≡ target i

pub carried_none : (target : ℕ → ℕ) (a : List ℕ) → Limbs a → target 0 ≡ 0 → Carried target a a 0 0
carried_none target a f e = record { within = omega arith; size = refl; rest = refl; limbs = f; sum = rw (value_none, e) (omega arith) }

-- the numbers of a turn: W is the limb's weight, d what the limb adds
turn : (W v x d c low high : ℕ) → v + c * W ≡ x → low + high * base ≡ d + c → v + low * W + high * (W * base) ≡ x + d * W
turn W v x d c low high h e =
    let p : low * W + high * base * W ≡ d * W + c * W = sym (add-mul low (high * base) W) ∙ ap (λ (n : ℕ). n * W) e ∙ add-mul d c W in
    let q : high * (W * base) ≡ high * base * W = sym (mul_assoc high base W ∙ ap (λ (n : ℕ). high * n) (mul_comm base W)) in
    omega arith

module _ {target : ℕ → ℕ} {a₀ a : List ℕ} {carry i : ℕ} (p : Carried target a₀ a carry i) where
  pub carried_at : get_or a i 0 ≡ get_or a₀ i 0
  carried_at =
      let e : get_or (drop i a) 0 0 ≡ get_or (drop i a₀) 0 0 = ap (λ (l : List ℕ). get_or l 0 0) p.rest in
      rw (get_or-drop i a 0 0, get_or-drop i a₀ 0 0, add-zero i) at e

  carried_rest : (v : ℕ) → drop (i + 1) (set a i v) ≡ drop (i + 1) a₀
  carried_rest v =
      let e : drop 1 (drop i a) ≡ drop 1 (drop i a₀) = ap (drop 1) p.rest in
      drop-set-lt (i + 1) a i v (omega arith) ∙ (rw (drop-drop 1 i a, drop-drop 1 i a₀) at e)

  -- the limb at i adds d, and becomes `low`
  pub carried_more : (d low high : ℕ) → i < length a → low < base → low + high * base ≡ d + carry → target (i + 1) ≡ target i + d * base ^ i
      → Carried target a₀ (set a i low) high (i + 1)
  carried_more d low high h l e t = record {
    within = simp length-set (omega arith);
    size = length-set a i low ∙ p.size;
    rest = carried_rest low;
    limbs = limbs_set a i low p.limbs l;
    sum = rw (value_take_set a i h low, t, add-one, pow-suc) (turn (base ^ i) _ (target i) d carry low high p.sum e);
  }

  -- past the last limb
  pub carried_all : length a₀ ≤ i → (value a + carry * base ^ length a₀ ≡ target (length a₀)) × (a ≡ limbs_of (length a₀) (target (length a₀)))
  carried_all h =
      let s = p.size in
      let e : i ≡ length a₀ = omega (arith, p.within) in
      let whole : value a + carry * base ^ length a₀ ≡ target (length a₀) = rw (take_all i a (omega arith), e) at p.sum in
      (whole, rw (← s) (digits a p.limbs _ carry (rw (← s) at whole)))
