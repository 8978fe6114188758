-- `mixes::add_class` meets its contract: the differences of the sums.
use Rattle.mixes.proofs.Classes.{sums_rise, class_added}
use Rattle.mixes.proofs.add_class.Goals as goal

pub subtract_back-requires : goal.subtract_back-requires
subtract_back-requires c = (c.requires.0, sums_rise c.args.row.now c.accumulate.ensures)

pub returns : goal.returns
returns c = class_added c.args.row.now c.accumulate.ensures c.subtract_back.ensures
