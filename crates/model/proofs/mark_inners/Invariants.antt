-- `mark_inners` meets its contract: a walk from item to item.
use Prim.Native.Nat.{◌≤◌}
use Rattle.nodes.proofs.Iterated.{Over}
use Rattle.model.proofs.Items.{Asked}
use Rattle.model.proofs.mark_inners.Given as goal

abbrev pub invariant-loop-item : goal.invariant-loop-item
invariant-loop-item l = let s = l.initial.item-iterator in Over l.nodes 0 s.rest.end l.item-iterator × (1 ≤ l.item-iterator.rest.at) × (l.item-iterator.rest.at ≤ s.rest.end) × Asked l.nodes l.asset l.initial.known l.known l.item-iterator.rest.at
