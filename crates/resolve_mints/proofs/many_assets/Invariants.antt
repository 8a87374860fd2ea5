-- `many_assets` meets its contract: a walk over items and fields meets a second Asset item, or the end.
use Prim.Native.Nat.{◌<◌}
use Rattle.nodes.specs.Shown.{View, tree_of}
use Rattle.nodes.proofs.Declared.{Over}
use Rattle.resolve_mints.proofs.Assets.{Met}
use Rattle.resolve_mints.proofs.many_assets.Given as goal

abbrev pub invariant-loop-p : goal.invariant-loop-p
invariant-loop-p l = Over l.nodes l.initial.p-iterator.to l.p-iterator × (0 < l.p-iterator.at) × ((W : View l.nodes 0) → Met (tree_of W) l.met l.p-iterator.at)
