-- `u32::show` meets its contract: ten digits hold a u32, so there are no more.
use Rattle.std.proofs.Common.{arith, length-append}
use Rattle.std.proofs.lemmas.List.{length-take}
use Rattle.report.proofs.U32Show.show.Goals as goal

pub put-requires : goal.put-requires
put-requires c =
    let few = c.put_digits-count.ensures.fewest 10 (omega arith) (omega arith) in
    simp length-take (omega arith)

pub returns-clause-size : goal.returns-clause-size
returns-clause-size c =
    let few = c.put_digits-count.ensures.fewest 10 (omega arith) (omega arith) in
    rw c.put.ensures (simp (length-append, length-take) (omega arith))
