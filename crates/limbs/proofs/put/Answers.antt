-- `limbs::put` meets its contract: the number of its two halves is loaded.
use mathlib.Core.Path.{ap, ◌∙◌}
use lib.ListN.{length}
use Rattle.limbs.specs.Value.{limbs_of}
use Rattle.limbs.proofs.Value.{value_pair}
use Rattle.limbs.proofs.put.Goals as goal

pub returns-clause-whole : goal.returns-clause-whole
returns-clause-whole c = let p = c.load.ensures in
    let e = value_pair c.split-t.result.low c.split-t.result.high ∙ c.split-t.ensures in
    p.whole ∙ e

pub returns-clause-digits : goal.returns-clause-digits
returns-clause-digits c = let p = c.load.ensures in
    let e = value_pair c.split-t.result.low c.split-t.result.high ∙ c.split-t.ensures in
    p.digits ∙ ap (limbs_of (length c.args.a.now)) e
