-- `level::leading_quotient` meets its contract: nine digits are left out a turn, until the quotient fits 64 bits.
use mathlib.Core.Path.{sym, ◌∙◌}
use Prim.Native.Nat.{◌*◌, ◌≤◌}
use native.Mathlib.Omega.{arith}
use borrow.Author.Tests.{ltb-false}
use Rattle.limbs.specs.Value.{base, value}
use borrow.Author.Rules.{rules}
use Rattle.level.proofs.Quotient.{reducing_starts, reducing_few, reducing_turn}
use Rattle.level.proofs.leading_quotient.Goals as goal

pub loop-quotient-init : goal.loop-quotient-init
loop-quotient-init c = reducing_starts _ _ _ (search rules) c.divide.auto.a c.divide.ensures.digits

pub loop-quotient-smaller : goal.loop-quotient-smaller
loop-quotient-smaller c =
    let big : base * base ≤ value c.loop-quotient.quotient = ltb-false _ _ (sym c.fits_u64.ensures ∙ c.loop-quotient-test.true) in
    omega (arith, reducing_few c.loop-quotient.invariant big)

pub loop-quotient-preserved : goal.loop-quotient-preserved
loop-quotient-preserved c =
    let d = c.divide-in-loop-quotient in
    let big : base * base ≤ value c.loop-quotient.quotient = ltb-false _ _ (sym c.fits_u64.ensures ∙ c.loop-quotient-test.true) in
    reducing_turn c.loop-quotient.invariant d.auto.a big d.ensures.quotient
