-- `find_items` meets its contract: of the kinds that are not found, no item stands before the one at hand.
use Prim.Native.Nat.{◌≤◌}
use mathlib.Core.Path.{◌≡◌}
use mathlib.Core.Bool.{true, false}
use Rattle.rules.specs.Tree.{event, genesis}
use Rattle.nodes.specs.Shown.{View, tree_of}
use Rattle.nodes.specs.Items.{NoneUpTo, SomeUpTo}
use Rattle.nodes.proofs.Iterated.{Over}
use Rattle.items.proofs.find_items.Given as goal

abbrev pub invariant-loop-item : goal.invariant-loop-item
invariant-loop-item l = let s = l.initial.item-iterator in Over l.nodes 0 s.rest.end l.item-iterator × (1 ≤ l.item-iterator.rest.at) × (l.item-iterator.rest.at ≤ s.rest.end) × (l.items.event ≡ false → (W : View l.nodes 0) → NoneUpTo (tree_of W) event l.item-iterator.rest.at) × (l.items.genesis ≡ false → (W : View l.nodes 0) → NoneUpTo (tree_of W) genesis l.item-iterator.rest.at) × (l.items.event ≡ true → (W : View l.nodes 0) → SomeUpTo (tree_of W) event l.item-iterator.rest.at) × (l.items.genesis ≡ true → (W : View l.nodes 0) → SomeUpTo (tree_of W) genesis l.item-iterator.rest.at)
