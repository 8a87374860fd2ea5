-- `same_type` meets its contract: as long, and node by node the same.
use Prim.Native.Nat.{◌+◌, ◌≤◌}
use mathlib.Core.Path.{◌≡◌}
use mathlib.Core.Bool.{true}
use Rattle.image.specs.Pick.{every}
use Rattle.nodes.specs.Shown.{View, tree_of}
use Rattle.signature.specs.Alike.{same_node}
use Rattle.resolve_overloads.proofs.same_type.Given as goal

abbrev pub invariant-loop-d : goal.invariant-loop-d
invariant-loop-d l = (l.d ≤ l.n) × ((W : View l.nodes 0) → every (λ x. same_node (tree_of W) (l.i + x) (l.j + x)) l.d ≡ true)
