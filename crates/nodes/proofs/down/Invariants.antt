-- `down` meets its contract: the walk stops at the first node that is not taken off, or at the end.
use Rattle.nodes.specs.Past.{taken_off}
use Rattle.nodes.proofs.Spans.{Span}
use Rattle.nodes.proofs.Fall.{Falling}
use Rattle.nodes.proofs.down.Given as goal

abbrev pub invariant-loop-r : goal.invariant-loop-r
invariant-loop-r l = Span l.nodes l.base l.x l.to × Falling (taken_off l.past) l.nodes l.base l.x l.to l.r
