-- `limbs::divide` meets its contract: a pass with a remainder, from the top limb down.
use Prim.Native.Nat.{ℕ, ◌+◌, ◌*◌}
use mathlib.Core.Path.{◌≡◌, ap, ◌∙◌}
use native.Mathlib.Omega.{arith}
use Rattle.limbs.specs.Value.{base}
use Rattle.limbs.proofs.Remainder.{divided_none, divided_at, divided_more, divided_digits}
use Rattle.limbs.proofs.divide.Goals as goal

pub loop-i-init : goal.loop-i-init
loop-i-init c = divided_none c.args.d c.args.a.now (λ j. (c.type_inv.a j).fits) c.requires

pub loop-i-preserved : goal.loop-i-preserved
loop-i-preserved c = let l = c.loop-i in
    let t = c.limb_quotient-t in
    divided_more l.invariant (omega arith) t.result.quotient t.result.remainder (omega arith) t.ensures.1
    (t.ensures.0 ∙ ap (λ (n : ℕ). l.remainder * base + n) (divided_at l.invariant (omega arith)))

pub returns-clause-digits : goal.returns-clause-digits
returns-clause-digits c = let l = c.loop-i in
    let e : l.i ≡ 0 = omega arith in
    let p = rw e at l.invariant in
    divided_digits p
