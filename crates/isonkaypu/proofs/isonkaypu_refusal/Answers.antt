-- `isonkaypu_refusal` meets its contract: the number of the refusal, or 0.
use mathlib.Core.Path.{◌∙◌}
use Rattle.isonkaypu.proofs.isonkaypu_refusal.Goals as goal

pub returns-in-None : goal.returns-in-None
returns-in-None c = rw c.in-None.is at c.refused.ensures.numbers

pub returns-in-Some : goal.returns-in-Some
returns-in-Some c = c.number.ensures ∙ rw c.in-Some.is at c.refused.ensures.numbers
