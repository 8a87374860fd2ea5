-- `entry_at` meets its contract: no item before the one at hand is an Entry that holds the place.
use Prim.Native.Nat.{◌≤◌}
use Rattle.nodes.specs.Shown.{View, tree_of}
use Rattle.nodes.proofs.Iterated.{Over}
use Rattle.why.proofs.Held.{NoneHolds}
use Rattle.why.proofs.entry_at.Given as goal

abbrev pub invariant-loop-item : goal.invariant-loop-item
invariant-loop-item l = let s = l.initial.item-iterator in Over l.nodes 0 s.rest.end l.item-iterator × (1 ≤ l.item-iterator.rest.at) × ((W : View l.nodes 0) → NoneHolds (tree_of W) l.place l.item-iterator.rest.at)
