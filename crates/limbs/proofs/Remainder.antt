-- A pass in place from the top limb down, with a remainder: what `divide` does.
use Prim.Native.Nat.{ℕ, ◌+◌, ◌*◌, ◌-◌, ◌/◌, ◌≤◌, ◌<◌}
use mathlib.Core.Path.{◌≡◌, refl, ap, sym, ◌∙◌}
use mathlib.Core.List.{List}
use native.Mathlib.Nat.{add-mul, mul_assoc, zero-mul, div-lt_iff_lt-mul}
use native.Mathlib.Omega.{arith}
use lib.Arith.{digits_div}
use lib.ListN.{length, take, drop, get_or, set, length-set}
use lib.Seq.{get_or-take, take-take, take-set-le, drop-set-lt, drop-length, get_or-set_same, lt-length-set}
use Rattle.limbs.specs.Value.{base, value, limbs_of}
use Rattle.limbs.proofs.Value.{Limbs, limbs_set, value_none, value_drop}
use Rattle.limbs.proofs.Digits.{limbs_exact}

-- a limb below a remainder that is less than d: the quotient is a limb
pub quotient_below : (high low d : ℕ) → high < d → low < base → (high * base + low) / d < base
quotient_below high low d h l = (div-lt_iff_lt-mul {k = d} {x = high * base + low} {y = base} (omega arith)).1 (omega arith)

-- `a₀` has become `a` from i on: those limbs are the quotient by d of what they were, with the remainder r; the others are as they were
pub record Divided (d : ℕ) (a₀ a : List ℕ) (r i : ℕ) : Type 0 where
  pub within : i ≤ length a
  pub size : length a ≡ length a₀
  pub rest : take i a ≡ take i a₀
  pub limbs : Limbs a
  pub small : r < d
  pub sum : value (drop i a) * d + r ≡ value (drop i a₀)

pub divided_none : (d : ℕ) (a : List ℕ) → Limbs a → 0 < d → Divided d a a 0 (length a)
divided_none d a f h = record {
  within = omega arith;
  size = refl;
  rest = refl;
  limbs = f;
  small = h;
  sum = rw (drop-length a, value_none, zero-mul) (omega arith);
}

-- the numbers of a turn: v is the quotient above, x what it was of
turn : (v x d r g q s : ℕ) → v * d + r ≡ x → q * d + s ≡ r * base + g → (q + base * v) * d + s ≡ g + base * x
turn v x d r g q s e f = omega (arith, add-mul q (base * v) d, mul_assoc base v d)

module _ {d : ℕ} {a₀ a : List ℕ} {r i : ℕ} (p : Divided d a₀ a r i) (h : 0 < i) where
  pub divided_at : get_or a (i - 1) 0 ≡ get_or a₀ (i - 1) 0
  divided_at =
      sym (get_or-take i a (i - 1) 0 (omega arith)) ∙ ap (λ (l : List ℕ). get_or l (i - 1) 0) p.rest ∙ get_or-take i a₀ (i - 1) 0 (omega arith)

  divided_rest : (q : ℕ) → take (i - 1) (set a (i - 1) q) ≡ take (i - 1) a₀
  divided_rest q =
      take-set-le (i - 1) a (i - 1) q (omega arith)
      ∙ sym (take-take (i - 1) i a (omega arith)) ∙ ap (take (i - 1)) p.rest ∙ take-take (i - 1) i a₀ (omega arith)

  divided_sum : (q s : ℕ) → q * d + s ≡ r * base + get_or a₀ (i - 1) 0 → value (drop (i - 1) (set a (i - 1) q)) * d + s ≡ value (drop (i - 1) a₀)
  divided_sum q s f =
      let l : i - 1 < length a = omega (arith, p.within) in
      let l₀ : i - 1 < length a₀ = omega (arith, p.within, p.size) in
      let e : i - 1 + 1 ≡ i = omega arith in
      rw (
        value_drop (set a (i - 1) q) (i - 1) (lt-length-set a (i - 1) q l),
        value_drop a₀ (i - 1) l₀,
        get_or-set_same a (i - 1) q 0 l,
        drop-set-lt (i - 1 + 1) a (i - 1) q (omega arith),
        e,
      )
      (turn (value (drop i a)) (value (drop i a₀)) d r (get_or a₀ (i - 1) 0) q s p.sum f)

  -- the top limb of those that are left becomes the quotient q, and s is left
  pub divided_more : (q s : ℕ) → q < base → s < d → q * d + s ≡ r * base + get_or a₀ (i - 1) 0 → Divided d a₀ (set a (i - 1) q) s (i - 1)
  divided_more q s l g f = record {
    within = simp length-set (omega (arith, p.within));
    size = length-set a (i - 1) q ∙ p.size;
    rest = divided_rest q;
    limbs = limbs_set a (i - 1) q p.limbs l;
    small = g;
    sum = divided_sum q s f;
  }

-- past the lowest limb
module _ {d : ℕ} {a₀ a : List ℕ} {r : ℕ} (p : Divided d a₀ a r 0) where
  pub divided_quotient : value a ≡ value a₀ / d
  divided_quotient = sym (digits_div (value a) p.small) ∙ ap (λ (n : ℕ). n / d) p.sum

  pub divided_digits : a ≡ limbs_of (length a₀) (value a₀ / d)
  divided_digits = limbs_exact a p.limbs (length a₀) (value a₀ / d) p.size divided_quotient
