-- The search for a level among the mantissas: each turn halves the range that holds its place, and the turns left suffice to close that range.
use mathlib.Core.Path.{◌≡◌}
use Prim.Native.Nat.{ℕ, suc, ◌+◌, ◌-◌, ◌*◌, ◌^◌, ◌≤◌, ◌<◌}
use native.Mathlib.Nat.{pow-zero, pow-suc, lt_of_not-le}
use native.Mathlib.Omega.{arith}
use lib.Dec.{lit<, lit≤}
use Rattle.power.specs.Power.{m, G}
use Rattle.power.proofs.Scale.{m_zero, m_thousand}
use Rattle.level.specs.Leading.{Found}

-- the place of the largest mantissa that is at most the digits lies from low on and before high; and two to the number of turns left is no less than the width
-- of that range
pub record Halving (digits low high turns : ℕ) : Type 0 where
  pub order : low < high
  pub end : high ≤ 1000
  pub reached : m low ≤ digits
  pub missed : digits < m high
  pub closes : high ≤ low + 2 ^ turns

-- the search begins with all thousand mantissas, for which the turns must suffice
pub halving_starts : {digits turns : ℕ} → 1000 ≤ 2 ^ turns → G ≤ digits → digits < 10 * G → Halving digits 0 1000 turns
halving_starts enough l h =
    record { order = lit< tt; end = lit≤ tt; reached = rw m_zero l; missed = rw m_thousand h; closes = omega (arith, enough) }

module _ {digits low high turns : ℕ} (p : Halving digits low high turns) (wide : low + 1 < high) where
  -- a range of more than one place has a turn left
  pub halving_left : 0 < turns
  halving_left = lt_of_not-le (λ l.
      let none : turns ≡ 0 = omega arith in
      omega (arith, rw (none, pow-zero) at p.closes))

  -- the turns after it suffice for half of the range
  halves : high ≤ low + 2 ^ (turns - 1) * 2
  halves =
      let one : turns ≡ suc (turns - 1) = omega (arith, halving_left) in
      rw (one, pow-suc) at p.closes

  -- the middle of the range, rounded down, leaves half of it on either side
  module _ {middle : ℕ} (least : low + high ≤ 2 * middle + 1) (most : 2 * middle ≤ low + high) where
    pub halving_up : m middle ≤ digits → Halving digits middle high (turns - 1)
    halving_up h = record { order = omega arith; end = p.end; reached = h; missed = p.missed; closes = omega (arith, halves) }

    pub halving_down : digits < m middle → Halving digits low middle (turns - 1)
    halving_down h =
        record { order = omega arith; end = omega (arith, p.end); reached = p.reached; missed = h; closes = omega (arith, halves) }

-- a range of one place is the place
pub halving_ends : {digits low high turns : ℕ} → Halving digits low high turns → high ≤ low + 1 → Found digits low
halving_ends {digits} {low} {high} p h =
    let e : high ≡ low + 1 = omega (arith, p.order) in
    record { place = omega (arith, p.order, p.end); low = p.reached; high = rw (← e) p.missed }
