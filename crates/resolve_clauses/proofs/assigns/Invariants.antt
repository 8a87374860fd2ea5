-- `assigns` meets its contract: a walk from statement to statement of the Genesis.
use Prim.Native.Nat.{◌+◌}
use Rattle.rules.specs.Tree.{assign}
use Rattle.rules.specs.Resolve.{rule33}
use Rattle.nodes.specs.Shown.{tree_of}
use Rattle.nodes.specs.State.{State}
use Rattle.nodes.proofs.Iterated.{Over}
use Rattle.nodes.proofs.Steps.{Walk-by}
use Rattle.nodes.specs.Entries.{HeldNode}
use Rattle.resolve_clauses.proofs.assigns.Given as goal

abbrev pub invariant-loop-statement : goal.invariant-loop-statement
invariant-loop-statement l = let s = l.initial.statement-iterator in Over l.nodes 0 s.rest.end l.statement-iterator × Walk-by (λ (h : HeldNode l.nodes l.genesis 0 (State l.nodes 0 l.state)). h.seen.view) assign (λ h. rule33 (tree_of h.seen.view)) (λ h. h.entries) (l.genesis + 1) s.rest.end 1 l.initial.out l.count l.out l.total l.statement-iterator.rest.at
