-- `mark` meets its contract.
use Rattle.steps.proofs.mark.Goals as goal

pub returns : goal.returns
returns c = simp c.name-x.ensures.0
