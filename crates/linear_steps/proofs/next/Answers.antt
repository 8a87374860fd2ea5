-- `next` meets its contract: each field by itself.
use mathlib.Core.Path.{refl}
use Rattle.linear_steps.proofs.next.Goals as goal

pub returns : goal.returns
returns c = rw c.row_before-at.ensures refl
