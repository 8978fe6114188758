-- `fill_from`: one read more.
use Rattle.std.proofs.Common.{◌∙◌, rules}
use Rattle.stream.proofs.Reading.{first_same, read_more}
use Rattle.stream.proofs.fill_from.Goals as goal

pub loop-at-preserved : goal.loop-at-preserved
loop-at-preserved g c =
    let told = c.in_ok-count.ensures in
    let before = c.loop-at.invariant in
    record {
      start = search rules;
      inside = search rules;
      whole = search rules;
      kept = first_same _ c.loop-at.at c.loop-at.held _ before.start told.held_after ∙ before.kept;
      bytes = read_more _ _ _ _ _ c.in_ok-count.count c.loop-at.held _ before.start before.inside told.held_after before.bytes told.bytes;
    }
