-- `day_words::read_each` meets its contract: the entries passed so far are read.
use Rattle.std.proofs.Common.{length}
use Rattle.day_words.proofs.Putting.{none_read, one_read}
use Rattle.day_words.proofs.read_each.Goals as goal

pub loop-i-init : goal.loop-i-init
loop-i-init g c = none_read (g.T.Entry.from_words c.args.words.now) g.T.Entry.WIDTH c.args.at c.args.entries.now

pub loop-i-preserved : goal.loop-i-preserved
loop-i-preserved g c =
    rw (c.read.ensures, c.WIDTH.ensures)
    (one_read (g.T.Entry.from_words c.args.words.now) g.T.Entry.WIDTH c.args.at (length c.args.entries.now) c.loop-i.invariant c.loop-i-test.true)
