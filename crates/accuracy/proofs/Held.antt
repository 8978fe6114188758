-- The stretches that a tally holds: an instant lies in one of them at the most, where the last of them ends, and how much energy they can have.
use mathlib.Core.Path.{◌≡◌, refl}
use mathlib.Core.Bool.{Bool, ◌&&◌, cond}
use mathlib.Core.List.{List, [], ◌∷◌}
use Prim.Native.Nat.{ℕ, ◌+◌, ◌*◌, ◌≤◌, zero-le}
use native.Mathlib.Nat.{le_refl, le_trans, mul-le-mul_left}
use native.Mathlib.Omega.{arith}
use borrow.Author.Tests.{leb-true, ltb-true}
use lib.Dec.{leb, ltb}
use lib.ListN.{length}
use Rattle.quantity.specs.Limits.{highest_sample}
use Rattle.quantity.specs.Lists.{Each}
use Rattle.power.specs.Power.{e}
use Rattle.event.specs.Window.{highest}
use Rattle.accuracy.specs.Tally.{Held, same_as}
use Rattle.clock.specs.Clock.{latest_end}
use Rattle.clock.specs.declared.Rate.{Rate}
use Rattle.accuracy.specs.Laws.{Apart, WithinReach, holders}
use Rattle.accuracy.specs.Hours.{held_energy}
use Rattle.quantity.proofs.Tests.{test, both}
use Rattle.accuracy.proofs.Lists.{energies_most}

-- a later instant lies in none
none_later : (instant : ℕ) {end : ℕ} (hs : List Held) → end ≤ instant → Apart end hs → holders instant hs ≡ 0
none_later instant [] l p = refl
none_later instant (h ∷ hs) l p =
    let rest = none_later instant hs (omega (arith, p.0, p.1)) p.2 in
    test (leb h.from instant && ltb instant h.to)
    (λ t. absurd (omega (arith, p.0, ltb-true instant h.to (both (leb h.from instant) (ltb instant h.to) t).1)))
    (λ f. rw f (omega arith))

pub at_most_one : (instant end : ℕ) (hs : List Held) → Apart end hs → holders instant hs ≤ 1
at_most_one instant end [] p = zero-le
at_most_one instant end (h ∷ hs) p =
    test (leb h.from instant && ltb instant h.to)
    (λ t. rw t (omega (arith, none_later instant hs (leb-true h.from instant (both (leb h.from instant) (ltb instant h.to) t).0) p.2)))
    (λ f. rw f (omega (arith, at_most_one instant h.from hs p.2)))

-- the end of the last stretch, 0 without any
abbrev pub last_end : List Held → ℕ
last_end [] = 0
last_end (h ∷ hs) = h.to

pub last_by : {end : ℕ} (hs : List Held) → Apart end hs → last_end hs ≤ end
last_by [] p = zero-le
last_by (h ∷ hs) p = p.0

pub last_within : (rate : Rate) (hs : List Held) → WithinReach rate hs → last_end hs ≤ latest_end rate
last_within rate [] w = zero-le
last_within rate (h ∷ hs) w = w.0.1

-- stretches that end by an instant end by each that is later, and by the end of the last of them
pub apart_later : {a c : ℕ} (hs : List Held) → a ≤ c → Apart a hs → Apart c hs
apart_later [] l p = tt
apart_later (h ∷ hs) l p = (le_trans p.0 l, p.1, p.2)

pub apart_last : (a : ℕ) (hs : List Held) → Apart a hs → Apart (last_end hs) hs
apart_last a [] p = tt
apart_last a (h ∷ hs) p = (le_refl h.to, p.1, p.2)

-- the number of the stretches of a period
abbrev pub count_in : Bool → List Held → ℕ
count_in p [] = 0
count_in p (h ∷ hs) = cond (same_as h.daytime p) 1 0 + count_in p hs

-- a stretch has at most one sample at each of its instants, and none above the highest level
abbrev pub Low : Held → Type 0
Low h = (length h.levels + h.from ≤ h.to) × (highest h.levels ≤ highest_sample)

-- so stretches that lie apart have at most the energy of a sample of the highest level at each instant up to the end
pub held_most : (end : ℕ) (hs : List Held) → Apart end hs → Each Low hs → held_energy hs ≤ e highest_sample * end
unfolding held_energy
held_most end [] p low = zero-le
held_most end (h ∷ hs) p low =
    let until : length h.levels + h.from ≤ end = omega (arith, p.0, low.0.0) in
    omega (arith, energies_most highest_sample h.levels low.0.1, held_most h.from hs p.2 low.1, mul-le-mul_left (e highest_sample) until)
