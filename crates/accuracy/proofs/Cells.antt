-- The cells that the stretches of a tally give, by period and clock hour: what each of them has, and their sum.
use mathlib.Core.Path.{◌≡◌, refl, sym, ap, ◌∙◌}
use mathlib.Core.Bool.{Bool, cond}
use mathlib.Core.List.{List, [], ◌∷◌}
use Prim.Native.Nat.{ℕ, zero, suc, ◌+◌, ◌≤◌, ◌<◌, zero-le}
use native.Mathlib.Omega.{arith}
use borrow.Author.Tests.{eqb-true, eqb-false}
use lib.Dec.{eqb}
use lib.ListN.{length, set, replicate, length-map, length-set, length-replicate}
use lib.Seq.{get_or-set_same, get_or-set_other}
use Rattle.quantity.proofs.Tests.{test}
use Rattle.limbs.specs.Value.{value, limbs_of}
use Rattle.clock.specs.Clock.{hours, hour_of}
use Rattle.clock.specs.declared.Rate.{Rate}
use Rattle.clock.proofs.Hours.{hour_below}
use Rattle.decades.specs.Decades.{energies}
use Rattle.ledger.specs.Book.{sum_of}
use Rattle.ledger.specs.Day.{cell_of, empty_cell, empty_cells, no_cell, energy_at, cell_energies}
use Rattle.ledger.specs.declared.Cell.{Cell}
use Rattle.ledger.proofs.Cells.{energy_at_lem}
use Rattle.offering.specs.Offer.{cells_with}
use Rattle.accuracy.specs.Tally.{Held, same_as}
use Rattle.accuracy.specs.Laws.{period_energy}
use Rattle.accuracy.specs.Hours.{PeaksInDay, of_hour, held_energy}
use Rattle.accuracy.proofs.Lists.{map_set, sum_raised}
use Rattle.accuracy.proofs.Sums.{period_part}
use Rattle.accuracy.proofs.Tests.{cond_both}

-- empty cells have no energy, in any hour and together
empty_at : (n hour : ℕ) → energy_at (replicate n empty_cell) hour ≡ 0
unfolding value
empty_at zero hour = refl
empty_at (suc n) zero = refl
empty_at (suc n) (suc hour) = empty_at n hour

empty_sum : (n : ℕ) → sum_of (cell_energies (replicate n empty_cell)) ≡ 0
unfolding sum_of value
empty_sum zero = refl
empty_sum (suc n) = omega (arith, empty_sum n)

-- the stretches of an hour have a part of the energy of all
pub hour_part : (rate : Rate) (hour : ℕ) (hs : List Held) → held_energy (of_hour rate hour hs) ≤ held_energy hs
unfolding held_energy
hour_part rate hour [] = zero-le
hour_part rate hour (h ∷ hs) =
    let rest = hour_part rate hour hs in
    test (eqb (hour_of rate h.peak) hour) (λ t. rw t (omega arith)) (λ f. rw f (omega arith))

-- each stretch joins the cell of its period and of the hour of its peak
abbrev pub cells_of_stretches : Rate → Bool → List Held → List Cell
cells_of_stretches rate p [] = empty_cells
cells_of_stretches rate p (h ∷ hs) =
    let cells = cells_of_stretches rate p hs in
    cond (same_as h.daytime p) (cells_with cells (hour_of rate h.peak) (energies h.levels)) cells

cells_length : (rate : Rate) (p : Bool) (hs : List Held) → length (cells_of_stretches rate p hs) ≡ hours
cells_length rate p [] = length-replicate hours empty_cell
cells_length rate p (h ∷ hs) =
    let rest = cells_length rate p hs in
    cond_both (λ (l : List Cell). length l ≡ hours) (same_as h.daytime p) (length-set (cells_of_stretches rate p hs) (hour_of rate h.peak) _ ∙ rest) rest

-- Energies below W are kept whole in four limbs. W stands for 2 ^ 128, a number too long for the prover's arithmetic.
module _ {W : ℕ} (whole : (n : ℕ) → n < W → value (limbs_of 4 n) ≡ n) where
  -- cells with the energy S more in hour k: that hour has it, no other hour changes, and the sum rises by it
  module _ (cells : List Cell) (k S : ℕ) (inside : k < length cells) (room : energy_at cells k + S < W) where
    raised_hour : energy_at (cells_with cells k S) k ≡ energy_at cells k + S
    raised_hour =
        ap (λ (c : Cell). value c.energy) (get_or-set_same cells k (cell_of (energy_at cells k + S)) no_cell inside) ∙ whole (energy_at cells k + S) room

    other_hour : (hour : ℕ) → (hour ≡ k → ⊥) → energy_at (cells_with cells k S) hour ≡ energy_at cells hour
    other_hour hour apart = ap (λ (c : Cell). value c.energy) (get_or-set_other cells k hour (cell_of (energy_at cells k + S)) no_cell apart)

    raised_sum : sum_of (cell_energies (cells_with cells k S)) ≡ sum_of (cell_energies cells) + S
    raised_sum =
        ap sum_of (map_set (λ (c : Cell). value c.energy) cells k (cell_of (energy_at cells k + S)))
        ∙ ap (λ (x : ℕ). sum_of (set (cell_energies cells) k x)) (whole (energy_at cells k + S) room ∙ ap (λ (v : ℕ). v + S) (sym (energy_at_lem cells k)))
        ∙ sum_raised (cell_energies cells) k S (rw length-map inside)

  -- where the peaks lie in the day and no sum wraps, a cell has the energy of the stretches of its period and hour
  module _ (rate : Rate) (p : Bool) where
    hour_inside : (h : Held) (hs : List Held) → PeaksInDay rate (h ∷ hs) → hour_of rate h.peak < length (cells_of_stretches rate p hs)
    hour_inside h hs peaks = rw (cells_length rate p hs) (hour_below rate h.peak peaks.0.1)

    hour_room : (h : Held) (hs : List Held) (k : ℕ) → energy_at (cells_of_stretches rate p hs) k ≡ period_energy p (of_hour rate k hs) → held_energy (h ∷ hs) < W
        → energy_at (cells_of_stretches rate p hs) k + energies h.levels < W
    unfolding held_energy
    hour_room h hs k has fits = omega (arith, period_part p (of_hour rate k hs), hour_part rate k hs)

    rest_fits : (h : Held) (hs : List Held) → held_energy (h ∷ hs) < W → held_energy hs < W
    unfolding held_energy
    rest_fits h hs fits = omega arith

    pub cell_has : (hour : ℕ) (hs : List Held) → PeaksInDay rate hs → held_energy hs < W
        → energy_at (cells_of_stretches rate p hs) hour ≡ period_energy p (of_hour rate hour hs)
    unfolding period_energy
    cell_has hour [] peaks fits = empty_at hours hour
    cell_has hour (h ∷ hs) peaks fits =
        let k = hour_of rate h.peak in
        let S = energies h.levels in
        let cells = cells_of_stretches rate p hs in
        let has : (at : ℕ) → energy_at cells at ≡ period_energy p (of_hour rate at hs) = λ at. cell_has at hs peaks.1 (rest_fits h hs fits) in
        let small = hour_room h hs k (has k) fits in
        test (same_as h.daytime p)
        (λ t. test (eqb k hour)
        (λ e.
        let at_peak : energy_at cells k ≡ period_energy p (of_hour rate hour hs) = rw (eqb-true k hour e) (has hour) in
        rw (e, ← eqb-true k hour e, t) (raised_hour cells k S (hour_inside h hs peaks) small ∙ omega (arith, at_peak)))
        (λ e. rw (t, e) (other_hour cells k S (hour_inside h hs peaks) small hour (λ same. eqb-false k hour e (sym same)) ∙ has hour)))
        (λ f. test (eqb k hour) (λ e. rw (e, f) (omega (arith, has hour))) (λ e. rw (f, e) (has hour)))

    -- and all cells together have the energy of the period
    pub cells_sum : (hs : List Held) → PeaksInDay rate hs → held_energy hs < W → sum_of (cell_energies (cells_of_stretches rate p hs)) ≡ period_energy p hs
    unfolding period_energy
    cells_sum [] peaks fits = empty_sum hours
    cells_sum (h ∷ hs) peaks fits =
        let k = hour_of rate h.peak in
        let tail = rest_fits h hs fits in
        let rest = cells_sum hs peaks.1 tail in
        let small = hour_room h hs k (cell_has k hs peaks.1 tail) fits in
        test (same_as h.daytime p)
        (λ t. rw t (raised_sum (cells_of_stretches rate p hs) k (energies h.levels) (hour_inside h hs peaks) small ∙ omega (arith, rest)))
        (λ f. rw f (omega (arith, rest)))
