-- `mean::mean_of` meets its contract: one day more with each turn, and the first rule that refuses.
use Rattle.std.proofs.Common.{◌≡◌, true, false, length, map, sym, ◌∙◌, arith, Err}
use Rattle.std.proofs.lemmas.List.{length-map}
use Rattle.std.proofs.lemmas.Grind.{common_steps}
use native.Mathlib.Numerals.{add-one}
use Rattle.quantity.specs.Answers.{reading}
use Rattle.quantity.proofs.Refusing.{refusal_positive}
use Rattle.mean.specs.Mean.{is_count_wrong}
use Rattle.mean.proofs.Totals.{none_kept, one_kept, none_summed, one_summed, one_outside, let_through, stopped, wrong_count, level_outside, mean_of_sums, told_at}
use Rattle.mean.proofs.mean_of.Goals as goal

pub returns-then-not-contains : goal.returns-then-not-contains
returns-then-not-contains g c =
    let a = c.args in
    let h = rw (c.new.ensures.start, c.new.ensures.end, c.new.ensures.exhausted) at c.contains.ensures.value in
    let w : is_count_wrong a.fewest a.most (length a.days.now) ≡ true = grind (arith, common_steps) in
    λ told tells. wrong_count a.fewest a.most (map told a.days.now) (rw length-map w)

pub loop-day-init : goal.loop-day-init
loop-day-init g c = (none_kept, λ told tells. none_summed (map told c.args.days.now))

pub returns-in_err-add_day : goal.returns-in_err-add_day
returns-in_err-add_day g c =
    let a = c.args in
    let h = rw (c.new.ensures.start, c.new.ensures.end, c.new.ensures.exhausted) at c.contains.ensures.value in
    let w : is_count_wrong a.fewest a.most (length a.days.now) ≡ false = grind (arith, common_steps) in
    let same : c.from_residual.result ≡ Err c.in_err-add_day.field-0.0 = grind arith in
    let s = stopped _ _ (refusal_positive c.in_err-add_day.field-0.0) c.in_err-add_day.ensures.0 in
    λ told tells.
    let levels = map told a.days.now in
    rw (same, s.1)
    (level_outside a.fewest a.most levels (rw length-map w)
    (one_outside levels c.loop-day.day-index c.loop-day.sums (rw length-map c.loop-day-test.true) (c.loop-day.invariant.1 told tells)
    (rw (← told_at a.days.now c.loop-day.day-index tells c.loop-day-test.true c.day-item.is c.level.ensures) s.0)))

pub loop-day-preserved : goal.loop-day-preserved
loop-day-preserved g c =
    let k = c.loop-day.day-index in
    let kept = c.loop-day.invariant.0 in
    rw (add-one, c.add_day.ensures.1) (
      one_kept k c.loop-day.sums (reading c.level.result) kept,
      λ told tells.
          let t = told_at c.args.days.now k tells c.loop-day-test.true c.day-item.is c.level.ensures in
          rw t
          (one_summed (map told c.args.days.now) k c.loop-day.sums (rw length-map c.loop-day-test.true) (c.loop-day.invariant.1 told tells) kept.size
          (rw (← t) (let_through _ c.in_ok-add_day.ensures.0))),
    )

pub returns : goal.returns
returns g c =
    let a = c.args in
    let h = rw (c.new.ensures.start, c.new.ensures.end, c.new.ensures.exhausted) at c.contains.ensures.value in
    let w : is_count_wrong a.fewest a.most (length a.days.now) ≡ false = grind (arith, common_steps) in
    let all : c.loop-day.day-index ≡ length a.days.now = grind arith in
    λ told tells.
    let same = length-map a.days.now told in
    rw (c.largest_level.ensures, ← same)
    (mean_of_sums a.fewest a.most (map told a.days.now) (rw same w) (all ∙ sym same) (c.loop-day.invariant.1 told tells))
