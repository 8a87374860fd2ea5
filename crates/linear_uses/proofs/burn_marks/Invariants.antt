-- `burn_marks` meets its contract: a walk from child to child over the head of the entry.
use Prim.Native.Nat.{◌+◌}
use Rattle.nodes.proofs.Spans.{Span}
use Rattle.nodes.proofs.Iterated.{Over}
use Rattle.linear_uses.proofs.Burnt.{Burnt}
use Rattle.linear_uses.proofs.burn_marks.Given as goal

abbrev pub invariant-loop-part : goal.invariant-loop-part
invariant-loop-part l = Over l.nodes 0 l.to l.part-iterator × Span l.nodes 0 (l.entry + 1) l.to × Burnt l.nodes l.entry l.asset l.burned l.rows l.to l.tallies l.part-iterator.rest.at
