-- `has_let` meets its contract: no child before the one at hand is a Let, or holds one.
use Prim.Native.Nat.{ℕ, ◌<◌}
use mathlib.Core.Path.{◌≡◌}
use mathlib.Core.Bool.{false}
use Rattle.rules.specs.Sweep.{has}
use Rattle.rules.specs.Tree.{«let»}
use Rattle.nodes.specs.Shown.{View, tree_of}
use Rattle.nodes.proofs.Iterated.{Over}
use Rattle.resolve_lets.proofs.has_let.Given as goal

abbrev pub invariant-loop-s : goal.invariant-loop-s
invariant-loop-s l = Over l.nodes 0 l.initial.s-iterator.rest.end l.s-iterator × (l.entry < l.s-iterator.rest.at) × ((W : View l.nodes 0) (j : ℕ) → l.entry < j → j < l.s-iterator.rest.at → has ((tree_of W).kind j) «let» ≡ false)
