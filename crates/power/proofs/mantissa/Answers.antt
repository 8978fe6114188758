-- `power::mantissa` gives an entry of the table, so a mantissa.
use Rattle.power.proofs.ConstantTable.{entry}
use Rattle.power.proofs.Cut.{m_low, m_high}
use Rattle.power.proofs.mantissa.Goals as goal

pub returns-clause-entry : goal.returns-clause-entry
returns-clause-entry c = entry c.args.f c.requires

pub returns-clause-ten_digits : goal.returns-clause-ten_digits
returns-clause-ten_digits c = rw (entry c.args.f c.requires) (m_low c.args.f, m_high c.args.f c.requires)
