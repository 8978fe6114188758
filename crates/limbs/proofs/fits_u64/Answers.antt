-- `limbs::fits_u64` meets its contract: two limbs hold the number where those above are 0.
use mathlib.Core.Path.{sym, ◌∙◌}
use native.Mathlib.Omega.{arith}
use borrow.Author.Tests.{lt-ltb, le-leb}
use Rattle.std.proofs.lemmas.Slice.{between_to_end}
use lib.ListN.{length}
use Rattle.limbs.proofs.Value.{two_limbs, above_zero}
use Rattle.limbs.proofs.fits_u64.Goals as goal

pub returns-then-a-le2 : goal.returns-then-a-le2
returns-then-a-le2 c = let h = c.if-a-le2.true in
    le-leb _ _ h ∙ sym (lt-ltb _ _ (two_limbs c.args.a.now (λ j. (c.type_inv.a j).fits) h))

pub returns-else-a-le2 : goal.returns-else-a-le2
returns-else-a-le2 c = let a = c.args.a.now in
    (rw (between_to_end a 2 (length a) (omega arith)) at c.are_zero.ensures) ∙ above_zero a (λ j. (c.type_inv.a j).fits) (omega (arith, c.if-a-le2.false))
