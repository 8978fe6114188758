-- `refill`: what is read stands behind the bytes that were moved.
use Rattle.std.proofs.Common.{◌-◌, ◌∙◌}
use Rattle.stream.proofs.Moving.{moved_part}
use Rattle.stream.proofs.Reading.{filled_run}
use Rattle.stream.proofs.refill.Goals as goal

pub returns-clause-in_order : goal.returns-clause-in_order
returns-clause-in_order g c =
    let kept = c.min-end.result - c.min-start.result in
    let filled = c.fill_from.ensures in
    let moved = moved_part c.args.held.now c.args.from c.args.to c.min-end.ensures c.min-start.ensures c.copy_within.ensures.after in
    filled_run c.fill_from.result _ _ _ c.fill_from.new.held kept (filled.held_after ∙ moved) filled.size filled.bytes
