-- `type_key` meets its contract: node by node.
use Prim.Native.Nat.{◌-◌, ◌≤◌}
use mathlib.Core.Path.{◌≡◌}
use Rattle.nodes.specs.Shown.{View}
use Rattle.nodes.proofs.Spans.{Span}
use Rattle.resolve_overloads.specs.Keys.{keyed}
use Rattle.resolve_overloads.proofs.type_key.Given as goal

abbrev pub invariant-loop-p : goal.invariant-loop-p
invariant-loop-p l = Span l.nodes 0 l.y l.end × (l.y ≤ l.p) × (l.p ≤ l.end) × ((W : View l.nodes 0) → l.k ≡ keyed W.image l.key l.y (l.p - l.y))
