-- `pairing::pair_all` meets its contract: each turn passes a pair, a movement or a peak.
use mathlib.Core.Path.{sym, ◌∙◌}
use borrow.Author.Rules.{rules}
use Rattle.pairing.proofs.Instants.{as_many, earlier_at, distance_at}
use Rattle.pairing.proofs.Turns.{settled_none, past_movement, past_peak, past_pair, ended_movements, ended_peaks}
use Rattle.pairing.proofs.pair_all.Goals as goal

pub loop-i-init : goal.loop-i-init
loop-i-init c = settled_none _ _ _ _ _ c.requires.fit.0 c.requires.fit.1 c.requires.clear.0 c.requires.clear.1

pub loop-i-preserved-then-distance-tolerance : goal.loop-i-preserved-then-distance-tolerance
loop-i-preserved-then-distance-tolerance c =
    let i = c.loop-i-test.true in
    let j = c.if-j-peaks.true in
    rw (c.mark_of.ensures, c.mark_of-then-distance-tolerance.ensures)
    (past_pair c.loop-i.invariant (rw as_many i) (rw as_many j) (rw (c.distance.ensures, distance_at _ _ i j (search rules) (search rules)) at c.if-distance-tolerance.true))

pub loop-i-preserved-then-movement-peak : goal.loop-i-preserved-then-movement-peak
loop-i-preserved-then-movement-peak c =
    let i = c.loop-i-test.true in
    let j = c.if-j-peaks.true in
    past_movement c.loop-i.invariant (rw as_many i) (rw as_many j) (rw (c.distance.ensures, distance_at _ _ i j (search rules) (search rules)) at c.if-distance-tolerance.false)
    (sym (earlier_at _ _ i j (search rules) (search rules)) ∙ c.if-movement-peak.true)

pub loop-i-preserved : goal.loop-i-preserved
loop-i-preserved c =
    let i = c.loop-i-test.true in
    let j = c.if-j-peaks.true in
    past_peak c.loop-i.invariant (rw as_many i) (rw as_many j) (rw (c.distance.ensures, distance_at _ _ i j (search rules) (search rules)) at c.if-distance-tolerance.false)
    (sym (earlier_at _ _ i j (search rules) (search rules)) ∙ c.if-movement-peak.false)

pub returns-else-j-peaks : goal.returns-else-j-peaks
returns-else-j-peaks c = ended_peaks c.loop-i.invariant (rw as_many c.if-j-peaks.false)

pub returns-after-loop-i : goal.returns-after-loop-i
returns-after-loop-i c = ended_movements c.loop-i.invariant (rw as_many c.loop-i-test.false)
