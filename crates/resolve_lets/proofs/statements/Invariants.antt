-- `statements` meets its contract: a walk from statement to statement, in each one a sweep over its Idents.
use Prim.Native.Nat.{◌+◌, ◌/◌}
use lib.ListN.{length}
use Rattle.rules.specs.Tree.{statement as statements}
use Rattle.nodes.specs.Shown.{tree_of}
use Rattle.nodes.specs.Entries.{HeldPart}
use Rattle.nodes.proofs.Iterated.{Over}
use Rattle.nodes.proofs.Steps.{Stepping}
use Rattle.resolve_lets.specs.Scope.{NamingBody, statement_names}
use Rattle.resolve_lets.proofs.statements.Given as goal

abbrev pub invariant-loop-s : goal.invariant-loop-s
invariant-loop-s l = Over l.nodes l.base (l.base + length l.nodes / 16) l.s-iterator × Stepping (λ (h : HeldPart l.nodes l.base l.entry (NamingBody l.nodes l.base l.state l.params l.lets)). h.seen.scope.body) statements (λ h. statement_names (tree_of h.seen.scope.body.view) h.seen.scope.body.item) (λ h. h.entries) 2051 l.initial.out l.count l.out l.total l.s-iterator.rest.at
