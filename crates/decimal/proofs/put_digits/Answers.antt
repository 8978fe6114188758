-- `put_digits` puts as many bytes as the number has digits.
use Rattle.std.proofs.Common.{◌≡◌, length, take, arith}
use Rattle.std.proofs.lemmas.List.{length-take-le}
use Rattle.decimal.proofs.Decimal.{few_digits}
use Rattle.decimal.proofs.put_digits.Goals as goal

pub returns-clause-fewest : goal.returns-clause-fewest
returns-clause-fewest c m some holds =
    let e : length (take c.put_within.result c.put_within.new.out) ≡ c.put_within.result = length-take-le _ _ (omega (arith, c.put_within.array_long)) in
    rw (← e, c.put_within.ensures.digits) (few_digits m 20 c.args.n some holds)
