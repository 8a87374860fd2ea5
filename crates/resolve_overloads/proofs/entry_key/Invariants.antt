-- `entry_key` meets its contract: a walk from parameter to parameter.
use Prim.Native.Nat.{◌+◌, ◌≤◌}
use Rattle.nodes.specs.Shown.{View}
use Rattle.nodes.proofs.Iterated.{Over}
use Rattle.resolve_overloads.proofs.Keys.{KeyFrom}
use Rattle.resolve_overloads.proofs.entry_key.Given as goal

abbrev pub invariant-loop-param : goal.invariant-loop-param
invariant-loop-param l = let s = l.initial.param-iterator in Over l.nodes 0 s.rest.end l.param-iterator × (l.e + 2 ≤ l.param-iterator.rest.at) × (l.param-iterator.rest.at ≤ s.rest.end) × ((W : View l.nodes 0) → KeyFrom W.image l.e l.key l.param-iterator.rest.at)
