-- `mixes::flights_of` meets its contract.
use native.Mathlib.Omega.{arith}
use Rattle.ledger.proofs.Books.{both_at}
use Rattle.mixes.proofs.flights_of.Goals as goal

pub returns : goal.returns
returns c =
    let a = c.args in
    let sum = both_at a.daytime.now a.night.now a.class c.requires.0 c.requires.1 in
    (omega (arith, sum, c.from.ensures, c.from-2.ensures), omega (arith, c.from.ensures, c.from-2.ensures, c.type_inv.daytime a.class, c.type_inv.night a.class))
