-- `c_interface::mean_of` meets its contract: the levels are those of the records.
use Rattle.c_interface.specs.Numbers.{record_level}
use Rattle.c_interface.proofs.Records.{levels_same}
use Rattle.c_interface.proofs.mean_of.Goals as goal

pub returns : goal.returns
returns c = rw (← levels_same c.args.records.now) (c.mean_of.ensures record_level (λ n answer says. says))
