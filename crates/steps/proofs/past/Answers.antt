-- `past` meets its contract.
use mathlib.Core.Path.{◌∙◌}
use Rattle.steps.proofs.Larger.{max-larger}
use Rattle.steps.proofs.past.Goals as goal

pub returns : goal.returns
returns c = simp (c.max.ensures ∙ max-larger c.args.p.deepest c.args.p.depth)
