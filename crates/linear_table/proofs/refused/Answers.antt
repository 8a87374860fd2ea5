-- `refused` meets its contract: one cell of a blank table is set.
use mathlib.Core.Path.{refl}
use Rattle.linear_table.specs.Table.{refused_table}
use Rattle.linear_table.proofs.refused.Goals as goal

pub returns : goal.returns
unfolding refused_table
returns c = refl
