-- `types_end` meets its contract: the first statement of an entry, the end of any other item.
use Rattle.nodes.proofs.Head.{head-at}
use Rattle.model.proofs.Types.{types-whole, types-head}
use Rattle.model.proofs.types_end.Goals as goal

pub returns-then-kind-eq-ENTRY : goal.returns-then-kind-eq-ENTRY
returns-then-kind-eq-ENTRY c = let P = c.requires in λ W. types-head (head-at W P.1 P.2 c.kind.ensures c.if-kind-eq-ENTRY.true c.first_statement.ensures)

pub returns : goal.returns
returns c = λ W. types-whole W c.requires.1 (c.end.ensures W)
