-- `invariant` meets its contract: another item has no 50; in an Invariant each node is asked.
use Prim.Native.Nat.{◌+◌}
use Rattle.records.proofs.Sweep.{Sweeping}
use Rattle.nodes.specs.Shown.{tree_of}
use Rattle.nodes.proofs.Steps.{in_tree}
use Rattle.nodes.proofs.Spans.{Span}
use Rattle.nodes.specs.State.{State}
use Rattle.access.specs.Seen.{at50}
use Rattle.access.proofs.invariant.Given as goal

abbrev pub invariant-loop-p : goal.invariant-loop-p
invariant-loop-p l = Span l.nodes 0 (l.item + 1) l.end × Sweeping (in_tree (λ (T : State l.nodes 0 l.state). T.view)) (λ T i. at50 i (tree_of T.view)) (l.item + 1) l.end 1 l.initial.out l.count l.out l.total l.p
