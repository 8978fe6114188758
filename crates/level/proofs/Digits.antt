-- The leading digits of a number: one digit fewer, and the level that they show.
use mathlib.Core.Path.{◌≡◌, ◌∙◌}
use mathlib.Core.Logic.{◌↔◌}
use mathlib.Core.Option.{some, none}
use Prim.Native.Nat.{ℕ, suc, ◌+◌, ◌-◌, ◌*◌, ◌/◌, ◌^◌, ◌≤◌, ◌<◌}
use native.Mathlib.Nat.{
  add_assoc,
  add-zero,
  one-mul,
  pow-zero,
  pow-suc,
  one-le-pow,
  div-one,
  le-div_iff_mul-le,
  div-lt_iff_lt-mul,
  div-div-eq-div-mul,
  lt_of_not-le,
  not-le_of_lt,
}
use native.Mathlib.Numerals.{add-one}
use native.Mathlib.Omega.{arith}
use lib.Dec.{lit<}
use Rattle.power.specs.Power.{m, e, G}
use Rattle.power.proofs.Scale.{e_zero, e_at}
use Rattle.level.specs.Level.{height_of}
use Rattle.level.specs.Leading.{Leads, Found}
use Rattle.level.proofs.Answer.{answered}

positive : (t : ℕ) → 0 < 10 ^ t
positive t = one-le-pow t 10 (lit< tt)

-- one digit fewer
pub leads_fewer : {n digits omitted : ℕ} → 10 * G ≤ digits → Leads n digits omitted → Leads n (digits / 10) (omitted + 1)
leads_fewer {n} {digits} {omitted} h l =
    record {
      cut = rw (l.cut, add-one, pow-suc) (div-div-eq-div-mul n (10 ^ omitted) 10);
      kept = λ _. omega arith;
    }

-- the loop that leaves out digits, one a turn: at the start fewer than twenty, at the end ten
pub record Shortening (first start digits omitted : ℕ) : Type 0 where
  pub same : (n : ℕ) → Leads n first start → Leads n digits omitted
  pub from : start ≤ omitted
  pub most : omitted ≤ start + 10
  pub room : digits < 10 ^ (start + 20 - omitted)

pub shortening_starts : {first start : ℕ} → first < 2 ^ 64 → Shortening first start first start
shortening_starts {first} {start} h =
    let k : start + 20 - start ≡ 20 = omega arith in
    record { same = λ n l. l; from = omega arith; most = omega arith; room = rw k (omega arith) }

module _ {first start digits omitted : ℕ} (p : Shortening first start digits omitted) where
  pub shortening_few : 10 * G ≤ digits → omitted < start + 10
  shortening_few h = lt_of_not-le (λ l.
      let k : start + 20 - omitted ≡ 10 = omega arith in
      omega (arith, rw k at p.room))

  pub shortening_turn : 10 * G ≤ digits → Shortening first start (digits / 10) (omitted + 1)
  shortening_turn h =
      let few = shortening_few h in
      let k : start + 20 - omitted ≡ suc (start + 20 - (omitted + 1)) = omega arith in
      record {
        same = λ n l. leads_fewer h (p.same n l);
        from = omega arith;
        most = omega arith;
        room = (div-lt_iff_lt-mul (lit< tt)).1 (rw (k, pow-suc) at p.room);
      }

-- ten digits or fewer are below the scale where they do not reach its first mantissa
pub digits_below : {n digits omitted : ℕ} → digits < G → Leads n digits omitted → none ≡ height_of 0 1 n
digits_below {n} {digits} {omitted} h l =
    let kept : 0 < omitted → ⊥ = λ z. omega (arith, l.kept z) in
    let whole : omitted ≡ 0 = omega arith in
    let all : digits ≡ n = l.cut ∙ (rw (whole, pow-zero) (div-one n)) in
    answered 0 1 n none (lit< tt) (rw e_zero (omega arith))

-- to try a mantissa on the digits is to try a level on the number
pub tried : (f : ℕ) → f ≤ 1000 → {n digits omitted : ℕ} → Leads n digits omitted → (m f ≤ digits) ↔ (e (1000 * omitted + f) ≤ n)
tried f h {n} {digits} {omitted} l = rw (l.cut, e_at omitted f h) (le-div_iff_mul-le (positive omitted))

-- so digits that are not below the scale show the level of the table
pub digits_level : {n digits omitted f : ℕ} → Found digits f → Leads n digits omitted → some (1000 * omitted + f) ≡ height_of 0 1 n
digits_level {n} {digits} {omitted} {f} p l =
    let c = 1000 * omitted + f in
    let reached : e c ≤ n = (tried f (omega (arith, p.place)) l).0 p.low in
    let missed : n < e (c + 1) =
    rw (add_assoc (1000 * omitted) f 1) (lt_of_not-le (λ h. not-le_of_lt p.high ((tried (f + 1) (omega (arith, p.place)) l).1 h))) in
    answered 0 1 n (some c) (lit< tt) (rw (add-zero c, one-mul (e c)) reached, rw (add-zero (c + 1), one-mul (e (c + 1))) missed)
