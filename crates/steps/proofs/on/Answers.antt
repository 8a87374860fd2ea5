-- `on` meets its contract: the node is passed, or opened.
use native.Mathlib.Omega.{arith}
use mathlib.Core.Path.{refl}
use mathlib.Core.Logic.{inl, inr}
use Rattle.steps.proofs.on.Goals as goal

pub returns-then-p-to : goal.returns-then-p-to
returns-then-p-to c = inr c.down.ensures

pub returns : goal.returns
returns c = inl (record { last = omega arith; may = omega arith; moved = c.past.ensures; same_states = refl; same_ends = refl })
