-- `day_words::period_at` meets its contract: each field from its place.
use Rattle.std.proofs.Common.{◌+◌, arith}
use Rattle.day_words.proofs.Putting.{read_counts}
use Rattle.day_words.proofs.period_at.Goals as goal

pub returns : goal.returns
returns c =
    let words = c.args.words.now in
    rw (
      c.limbs_at.ensures,
      c.limbs_at-2.ensures,
      c.read_each.ensures,
      c.read_each-2.ensures,
      c.read_each-3.ensures,
      c.empty_cells.ensures,
      read_counts words c.args.at 16 (omega arith),
      read_counts words (c.args.at + 16) 16 (omega arith),
    )
