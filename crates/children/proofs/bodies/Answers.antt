-- `bodies` meets its contract: one transition after the other, and what they give computes to the numbers of the definition.
use Rattle.image.specs.Digits.{part_at, after_from, states, state_of, laid_below}
use Rattle.image.proofs.Digits.{led}
use Rattle.children.proofs.bodies.Goals as goal

pub returns : goal.returns
unfolding part_at after_from states state_of laid_below
returns c = led c.leads-9.ensures (led c.leads-8.ensures (led c.leads-7.ensures (led c.leads-6.ensures (led c.leads-5.ensures (led c.leads-4.ensures (led c.leads-3.ensures (led c.leads-2.ensures (led c.leads.ensures c.requires))))))))
