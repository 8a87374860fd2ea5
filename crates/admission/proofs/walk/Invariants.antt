-- `walk` meets its contract: `Walking` holds at each position, and a step leaves less of the walk.
use Prim.Native.Nat.{◌+◌, ◌*◌, ◌-◌}
use Rattle.admission.proofs.Walking.{Walking}
use Rattle.admission.proofs.walk.Given as goal

abbrev pub invariant-loop-p : goal.invariant-loop-p
invariant-loop-p l = Walking l.parts.nodes.now l.parts.names.now l.parts.text.now l.parts.n l.parts.m l.stack.states l.stack.ends l.marks l.p

abbrev pub decreases-loop-p : goal.decreases-loop-p
decreases-loop-p l = 2 * (l.parts.n - l.p.at) + l.p.depth
