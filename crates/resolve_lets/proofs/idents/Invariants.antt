-- `idents` meets its contract: one sweep over the nodes of the statement.
use Prim.Native.Nat.{◌+◌}
use Rattle.rules.specs.Tree.{ident}
use Rattle.rules.specs.Resolve.{rule26}
use Rattle.nodes.specs.Shown.{tree_of}
use Rattle.nodes.specs.Entries.{HeldPart}
use Rattle.nodes.proofs.Steps.{Walk-by}
use Rattle.resolve_lets.specs.Scope.{Lets}
use Rattle.resolve_lets.proofs.idents.Given as goal

abbrev pub invariant-loop-p : goal.invariant-loop-p
invariant-loop-p l = Walk-by (λ (h : HeldPart l.nodes l.base l.entry (Lets l.nodes l.base l.lets)). h.seen.body.view) ident (λ h. rule26 (tree_of h.seen.body.view) h.seen.body.item l.s) (λ h. h.entries) (l.s + 1) l.end 1 l.initial.out l.count l.out l.total l.p
