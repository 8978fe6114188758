-- `mixes::put_class` meets its contract.
use Rattle.mixes.proofs.Table.{class_put}
use borrow.Author.Rules.{rules}
use Rattle.mixes.proofs.put_class.Goals as goal

pub returns : goal.returns
returns c = class_put c.args.table.now _ c.args.at c.args.size _ _ c.requires.1 c.add_class.ensures (search rules)
