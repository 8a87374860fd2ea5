-- `down` meets its contract: the cells of the stack are written.
use mathlib.Core.Path.{refl, ◌∙◌}
use Rattle.steps.proofs.Larger.{max-larger}
use Rattle.steps.proofs.down.Goals as goal

pub returns : goal.returns
returns c = record { moved = simp (c.max.ensures ∙ max-larger c.args.p.deepest c.args.p.depth); put_state = refl; put_end = refl }
