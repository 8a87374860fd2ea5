-- `up` meets its contract: the cells of the stack are read.
use Rattle.steps.proofs.up.Goals as goal

pub returns : goal.returns
returns c = simp (c.from.ensures, c.from-2.ensures)
