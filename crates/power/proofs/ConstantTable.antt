-- The constant table holds the mantissas: the rule is a test that is computed at each entry, in runs, since a declaration may take 50,000,000 steps.
use mathlib.Core.Path.{◌≡◌, ap, ◌∙◌}
use Prim.Native.Nat.{ℕ, ◌<◌}
use native.Mathlib.Nat.{zero-add}
use lib.Dec.{lit≤}
use lib.ListN.{get_or, take, drop}
use Rattle.power.specs.Power.{m}
use Rattle.power.specs.declared.mantissas.TheConstants.{MANTISSAS}
use Rattle.power.proofs.Table.{IsRun, right, run, runs}

run_1 : IsRun 0 (take 151 MANTISSAS)
unfolding right
run_1 = run 0 (take 151 MANTISSAS) tt

run_2 : IsRun 151 (take 151 (drop 151 MANTISSAS))
unfolding right
run_2 = run 151 (take 151 (drop 151 MANTISSAS)) tt

run_3 : IsRun 302 (take 150 (drop 302 MANTISSAS))
unfolding right
run_3 = run 302 (take 150 (drop 302 MANTISSAS)) tt

run_4 : IsRun 452 (take 150 (drop 452 MANTISSAS))
unfolding right
run_4 = run 452 (take 150 (drop 452 MANTISSAS)) tt

run_5 : IsRun 602 (take 133 (drop 602 MANTISSAS))
unfolding right
run_5 = run 602 (take 133 (drop 602 MANTISSAS)) tt

run_6 : IsRun 735 (take 133 (drop 735 MANTISSAS))
unfolding right
run_6 = run 735 (take 133 (drop 735 MANTISSAS)) tt

run_7 : IsRun 868 (drop 868 MANTISSAS)
unfolding right
run_7 = run 868 (drop 868 MANTISSAS) tt

whole : IsRun 0 MANTISSAS
whole =
    runs 0 151 MANTISSAS (lit≤ tt) run_1
    (runs 151 151 (drop 151 MANTISSAS) (lit≤ tt) run_2
    (runs 302 150 (drop 302 MANTISSAS) (lit≤ tt) run_3
    (runs 452 150 (drop 452 MANTISSAS) (lit≤ tt) run_4
    (runs 602 133 (drop 602 MANTISSAS) (lit≤ tt) run_5
    (runs 735 133 (drop 735 MANTISSAS) (lit≤ tt) run_6 run_7)))))

pub entry : (f : ℕ) → f < 1000 → get_or MANTISSAS f 0 ≡ m f
entry f h = whole.entry f h ∙ ap m (zero-add f)
