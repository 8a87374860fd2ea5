-- `put` meets its contract: the four cells are set.
use borrow.Author.Rules.{rules}
use Rattle.linear_table.specs.Table.{stored}
use Rattle.linear_table.proofs.put.Goals as goal

pub returns : goal.returns
unfolding stored
returns c = search rules
