-- `day_words::put_each` meets its contract: the entries passed so far are put.
use Rattle.std.proofs.Common.{arith}
use Rattle.day_words.proofs.Putting.{none_put, one_put}
use Rattle.day_words.proofs.put_each.Goals as goal

pub loop-i-init : goal.loop-i-init
loop-i-init g c = none_put g.T.Entry.to_words g.T.Entry.WIDTH c.args.entries.now c.args.at (omega arith)

pub loop-i-preserved : goal.loop-i-preserved
loop-i-preserved g c =
    let here = rw c.WIDTH.ensures at c.put.ensures in
    one_put g.T.Entry.to_words g.T.Entry.WIDTH c.args.entries.now c.args.at c.loop-i.invariant c.loop-i-test.true c.index-entries-i.is here.put here.place
