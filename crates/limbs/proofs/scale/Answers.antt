-- `limbs::scale` meets its contract: a pass with a carry, whose limb at i adds k times what it was.
use Prim.Native.Nat.{ℕ, ◌+◌, ◌*◌, ◌^◌}
use mathlib.Core.Path.{refl, ap, ◌∙◌}
use native.Mathlib.Nat.{add-mul, mul_right_comm}
use native.Mathlib.Omega.{arith}
use lib.ListN.{get_or}
use lib.Seq.{take-length}
use Rattle.limbs.specs.Value.{base}
use Rattle.limbs.proofs.Value.{value_none, value_take}
use Rattle.limbs.proofs.Carry.{carried_none, carried_at, carried_more, carried_all}
use Rattle.limbs.proofs.scale.Goals as goal

pub loop-limb-init : goal.loop-limb-init
loop-limb-init c = carried_none _ c.args.a.now (λ j. (c.type_inv.a j).fits) (rw value_none (omega arith))

pub loop-limb-preserved : goal.loop-limb-preserved
loop-limb-preserved c = let l = c.loop-limb in
    let a₀ = c.args.a.now in
    let k = c.args.k in
    let t = c.limb_product-t in
    carried_more l.invariant (get_or a₀ l.limb-index 0 * k) t.result.low t.result.high (omega arith) (omega arith)
    (t.ensures ∙ ap (λ (n : ℕ). n * k + l.carry) (carried_at l.invariant))
    (rw (value_take a₀ l.limb-index, add-mul, mul_right_comm (get_or a₀ l.limb-index 0) k (base ^ l.limb-index)) refl)

pub returns-clause-digits : goal.returns-clause-digits
returns-clause-digits c = let a₀ = c.args.a.now in
    (rw (take-length a₀) at (carried_all c.loop-limb.invariant (omega arith))).1
