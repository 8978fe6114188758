-- `mixes::accumulate` meets its contract: the sum of what is passed so far.
use mathlib.Core.Path.{◌≡◌, sym}
use mathlib.Core.List.{List}
use Prim.Native.Nat.{ℕ, suc, ◌+◌}
use native.Mathlib.Omega.{arith}
use native.Mathlib.Numerals.{add-one}
use lib.ListN.{length, get_or}
use Rattle.mixes.specs.Ways.{sum_below, cells}
use Rattle.mixes.proofs.Sums.{sum_none, sum_more, sum_up}
use Rattle.mixes.proofs.Rows.{Upto, upto_start, upto_more}
use Rattle.mixes.proofs.accumulate.Goals as goal

-- the sum with one number more, which the place still holds
more : {old row : List ℕ} {sum i : ℕ} → Upto old row (λ s. sum_below (cells old) (suc s)) i → sum ≡ sum_below (cells old) i → sum + get_or row i 0 ≡ sum_below (cells old) (suc i)
more {old} {row} {sum} {i} p e = omega (arith, sum_more (cells old) i, p.kept i (omega arith))

pub loop-number-init : goal.loop-number-init
loop-number-init c = (upto_start _ _, sym (sum_none _))

pub overflow_add-sum : goal.overflow_add-sum
overflow_add-sum c =
    let l = c.loop-number in
    omega (arith, more l.invariant.0 l.invariant.1, sum_up (cells c.args.row.now) (suc l.number-index) (length c.args.row.now) c.loop-number-test.true)

pub loop-number-preserved : goal.loop-number-preserved
loop-number-preserved c =
    let l = c.loop-number in
    let e = more l.invariant.0 l.invariant.1 in
    (upto_more l.invariant.0 _ (rw l.invariant.0.size c.loop-number-test.true) e, rw add-one e)
