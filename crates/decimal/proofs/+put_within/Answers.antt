-- `put_within` at a number below ten: the digit stands alone.
use Rattle.std.proofs.Common.{◌<◌, length, arith}
use Rattle.std.proofs.lemmas.List.{take_more_set}
use Rattle.decimal.proofs.Decimal.{one_digit}
use Rattle.decimal.proofs.+put_within.Goals as goal

pub returns-then-n-lt10-clause-digits : goal.returns-then-n-lt10-clause-digits
returns-then-n-lt10-clause-digits t c =
    let room : 0 < length c.args.out.now = omega (arith, c.told-out) in
    rw (take_more_set c.args.out.now 0, c.digit_of.ensures, one_digit c.args.most c.args.n c.requires.fewest c.if-n-lt10.true)
