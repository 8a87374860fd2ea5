-- `transitions` meets its contract: from a table of 0, which is what stands before the first kind, each group of kinds adds its own.
use mathlib.Core.Path.{refl}
use Rattle.image.specs.Digits.{part_at, after_from, states, state_of, laid_below, next_states}
use Rattle.children.proofs.transitions.Goals as goal

pub declarations-requires : goal.declarations-requires
unfolding part_at after_from states state_of laid_below
declarations-requires c = refl

pub returns : goal.returns
unfolding next_states
returns c = c.bodies.ensures
