-- `first_statement` meets its contract: no child before the one at hand is a statement.
use Prim.Native.Nat.{◌+◌, ◌<◌, ◌≤◌}
use Rattle.nodes.specs.Shown.{View, tree_of}
use Rattle.nodes.proofs.Spans.{Span}
use Rattle.nodes.proofs.Flat.{None}
use Rattle.nodes.proofs.Iterated.{Over}
use Rattle.items.proofs.first_statement.Given as goal

abbrev pub invariant-loop-child : goal.invariant-loop-child
invariant-loop-child l = let s = l.initial.child-iterator in Over l.nodes l.base s.rest.end l.child-iterator × Span l.nodes l.base (l.entry + 1) s.rest.end × (l.entry < l.child-iterator.rest.at) × (l.child-iterator.rest.at ≤ s.rest.end) × ((W : View l.nodes l.base) → None (tree_of W) l.entry l.child-iterator.rest.at)
