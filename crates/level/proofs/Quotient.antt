-- A sum in limbs times the depth of the scale, and its quotient, cut by nine digits a turn until it fits 64 bits.
use mathlib.Core.Path.{◌≡◌, refl, ap, sym, ◌∙◌}
use mathlib.Core.List.{List}
use Prim.Native.Nat.{ℕ, ◌+◌, ◌*◌, ◌/◌, ◌%◌, ◌^◌, ◌≤◌, ◌<◌}
use native.Mathlib.Nat.{
  mul_comm,
  pow-suc,
  pow-zero,
  div-one,
  div-lt_iff_lt-mul,
  div-div-eq-div-mul,
  mod-lt,
  mod-eq_of_lt,
  mul-le-mul_left,
  pow-le-pow_right,
  one-le-pow,
  lt_of_lt_of_le,
  le_trans,
  lt_of_not-le,
}
use native.Mathlib.Omega.{arith}
use lib.Dec.{lit<, lit≤}
use lib.ListN.{length}
use lib.Pow.{pow-add}
use Rattle.quantity.specs.Scale.{depth_factor}
use Rattle.limbs.specs.Value.{base, value, limbs_of}
use Rattle.limbs.proofs.Digits.{value_limbs_of, value_limbs_of_whole}
use Rattle.level.specs.Leading.{Leads}

-- six limbs have room for the product
product_room : (b v : ℕ) → v < 2 * b → v * depth_factor < b * base
product_room b v h = omega arith

pub deepened_kept : (p : List ℕ) {q : List ℕ} → length p ≡ 6 → value p < 2 * base ^ 5 → q ≡ limbs_of (length p) (value p * depth_factor) → value q ≡ depth_factor * value p
deepened_kept p l h d =
    let room : value p * depth_factor < base ^ 6 = rw (pow-suc base 5) (product_room (base ^ 5) (value p) h) in
    ap value d ∙ ap (λ (i : ℕ). value (limbs_of i (value p * depth_factor))) l ∙ value_limbs_of_whole 6 (value p * depth_factor) room ∙ mul_comm (value p) depth_factor

-- the limbs q are the leading digits of the number of first, whose six limbs are fewer than 58 digits
pub record Reducing (first q : List ℕ) (omitted : ℕ) : Type 0 where
  pub size : length q ≡ 6
  pub leads : Leads (value first) (value q) omitted
  pub room : value first < base ^ 6
  pub most : omitted ≤ 47

-- a quotient by itself
pub reducing_starts : (q : List ℕ) (n k : ℕ) → k ≡ 6 → length q ≡ k → q ≡ limbs_of k n → Reducing q q 0
reducing_starts q n k s l h =
    record {
      size = l ∙ s;
      leads = record { cut = rw pow-zero (sym (div-one (value q))); kept = λ z. absurd (omega arith) };
      room = rw (h, value_limbs_of k n, s) (mod-lt n (one-le-pow 6 base (lit< tt)));
      most = omega arith;
    }

module _ {first q : List ℕ} {omitted : ℕ} (p : Reducing first q omitted) where
  -- a quotient that passes 64 bits has twenty digits or more left
  pub reducing_few : base * base ≤ value q → omitted < 39
  reducing_few h = lt_of_not-le (λ l.
      let room : value first < 10 ^ 19 * 10 ^ omitted =
      lt_of_lt_of_le p.room (le_trans {m = 10 ^ 19 * 10 ^ 39} (lit≤ tt) (mul-le-mul_left (10 ^ 19) (pow-le-pow_right {n = 10} (lit< tt) l))) in
      omega (arith, rw (← p.leads.cut) at ((div-lt_iff_lt-mul (one-le-pow omitted 10 (lit< tt))).1 room)))

  pub reducing_turn : {r : List ℕ} → length r ≡ length q → base * base ≤ value q → value r ≡ value q / 10 ^ 9 → Reducing first r (omitted + 9)
  reducing_turn l h e =
      record {
        size = l ∙ p.size;
        leads =
            record {
              cut = e ∙ ap (λ (n : ℕ). n / 10 ^ 9) p.leads.cut ∙ div-div-eq-div-mul (value first) (10 ^ omitted) (10 ^ 9) ∙ (rw (pow-add 10 omitted 9) refl);
              kept = λ _. omega arith;
            };
        room = p.room;
        most = omega (arith, reducing_few h);
      }

  pub reducing_ends : value q < base * base → {d : ℕ} → d ≡ value q % (base * base) → Leads (value first) d omitted
  reducing_ends h e =
      let same = e ∙ mod-eq_of_lt h in
      record { cut = same ∙ p.leads.cut; kept = λ z. rw same (p.leads.kept z) }
