-- `run`: a turn brings the reader nearer to its end, and one line more of the file's report is written.
use Rattle.std.proofs.Common.{ltb, ltb-true, length, refl, sym, ap, ◌∙◌, arith}
use Rattle.stream.specs.Part.{part}
use Rattle.steps.specs.Machine.{Next}
use Rattle.steps.specs.Run.{steps_left}
use Rattle.steps.proofs.Ending.{nearer_law}
use Rattle.day.specs.Turn.{next_of, unused}
use Rattle.day.proofs.Turning.{part_long}
use Rattle.day.proofs.Printing.{nothing_yet, part_none, left_of_part, one_line_more, all_printed}
use Rattle.day.proofs.run.Goals as goal

pub loop-turn-smaller : goal.loop-turn-smaller
loop-turn-smaller g c =
    let p = c.in_ok-turn.ensures.turned in
    let r = c.in_ok-turn.turn in
    let held = c.take_turn.new.held in
    let window = part held r.from r.end in
    let long = part_long held r.from r.end p.inside.1 in
    rw (ap (λ (n : Next). steps_left n.reader) p.step)
    (nearer_law c.loop-turn.turn.reader window (ltb r.end (length held))
    (λ f. omega (arith, long, p.enough f))
    (sym c.is_done.ensures ∙ c.loop-turn-test.true)
    (omega (arith, ap (λ (n : Next). n.reader.count) p.step)))

pub loop-turn-init : goal.loop-turn-init
loop-turn-init g c = record {
  whole = refl;
  ended = λ h. absurd (omega arith);
  so_far = nothing_yet (g.R.Read.remaining c.args.input.now) (g.W.Write.contents c.args.out.now) c.fresh.result _ c.fresh.ensures (part_none c.args.held.now (length c.args.held.now));
}

pub loop-turn-preserved : goal.loop-turn-preserved
loop-turn-preserved g c =
    let left = g.R.Read.remaining in
    let wrote = g.W.Write.contents in
    let before = c.loop-turn.invariant in
    let last = c.loop-turn.turn in
    let e = c.in_ok-turn.ensures in
    let r = c.in_ok-turn.turn in
    let held = c.take_turn.new.held in
    record {
      whole = e.whole ∙ before.whole;
      ended = e.input_ended before.ended;
      so_far =
          one_line_more (left c.args.input.now) (left c.loop-turn.input) (left c.take_turn.new.input) (wrote c.args.out.now) (wrote c.loop-turn.out) (wrote c.write_line.new.out)
          last.reader (unused last c.loop-turn.held) (part held r.from r.end) (unused r held) (ltb r.end (length held)) (next_of r) before.so_far e.in_order
          (λ f. e.input_ended before.ended (ltb-true _ _ f)) e.turned.step (left_of_part held r.from r.at r.end e.turned.used) c.in_ok-write_line.ensures;
    }

pub returns : goal.returns
returns g c =
    let left = g.R.Read.remaining in
    let wrote = g.W.Write.contents in
    let last = c.loop-turn.turn in
    all_printed (left c.args.input.now) (left c.loop-turn.input) (wrote c.args.out.now) (wrote c.loop-turn.out) last.reader (unused last c.loop-turn.held)
    c.loop-turn.invariant.so_far (sym c.is_done.ensures ∙ c.loop-turn-test.false)
