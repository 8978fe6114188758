-- `limbs::add` meets its contract: a pass with a carry, whose limb at i adds what it was and the limb of b.
use Prim.Native.Nat.{ℕ, ◌+◌}
use mathlib.Core.Path.{◌≡◌, ap, ◌∙◌}
use native.Mathlib.Nat.{add-mul}
use native.Mathlib.Omega.{arith}
use lib.ListN.{length, get_or}
use lib.Seq.{take_all, take-length}
use Rattle.limbs.proofs.Value.{value_none, value_take}
use Rattle.limbs.proofs.Carry.{carried_none, carried_at, carried_more, carried_all}
use Rattle.limbs.proofs.add.Goals as goal

pub loop-i-init : goal.loop-i-init
loop-i-init c = carried_none _ c.args.a.now (λ j. (c.type_inv.a j).fits) (rw value_none (omega arith))

pub loop-i-preserved : goal.loop-i-preserved
loop-i-preserved c = let l = c.loop-i in
    let a₀ = c.args.a.now in
    let b = c.args.b.now in
    let t = c.limb_sum-t in
    let same : length a₀ ≡ length b = c.requires in
    carried_more l.invariant (get_or a₀ l.i 0 + get_or b l.i 0) t.result.low t.result.high (omega arith) (omega arith)
    (t.ensures ∙ ap (λ (n : ℕ). n + get_or b l.i 0 + l.carry) (carried_at l.invariant))
    (rw (value_take a₀ l.i, value_take b l.i, add-mul) (omega arith))

pub returns-clause-digits : goal.returns-clause-digits
returns-clause-digits c = let a₀ = c.args.a.now in
    let b = c.args.b.now in
    let same : length a₀ ≡ length b = c.requires in
    (rw (take-length a₀, take_all (length a₀) b (omega arith)) at (carried_all c.loop-i.invariant (omega arith))).1
