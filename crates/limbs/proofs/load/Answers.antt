-- `limbs::load` meets its contract: the limbs above are 0.
use mathlib.Core.Path.{◌≡◌}
use native.Mathlib.Omega.{arith}
use borrow.Author.Rules.{rules}
use lib.ListN.{length, replicate}
use Rattle.limbs.proofs.Value.{value_below, value_filled}
use Rattle.limbs.proofs.Digits.{filled}
use Rattle.limbs.proofs.load.Goals as goal

zeros : (c : goal.After-slice_known-4-1) → c.fill.new.self ≡ replicate (length c.split_at_mut-low.result.1.now) 0
zeros c = c.fill.ensures.after (λ y h. search rules)

pub returns-clause-whole : goal.returns-clause-whole
returns-clause-whole c = rw (c.copy_from_slice.ensures.after, zeros c) (value_filled c.args.b.now _)

pub returns-clause-digits : goal.returns-clause-digits
returns-clause-digits c = let f = rw (c.copy_from_slice.ensures.after, zeros c) at c.type_inv.a in
    rw (c.copy_from_slice.ensures.after, zeros c) (filled c.args.b.now _ (λ j. (f j).fits) (search rules))

pub returns-clause-below : goal.returns-clause-below
returns-clause-below c = value_below c.args.b.now (λ j. (c.type_inv.b j).fits)
