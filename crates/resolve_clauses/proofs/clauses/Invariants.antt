-- `clauses` meets its contract: a walk over the head of the entry is one over all of it.
use Prim.Native.Nat.{◌+◌}
use Rattle.nodes.specs.Shown.{tree_of}
use Rattle.nodes.proofs.Iterated.{Over}
use Rattle.nodes.proofs.Steps.{Walk}
use Rattle.rules.specs.Tree.{naming}
use Rattle.resolve_clauses.specs.Said.{AssetMarks, clause_rules}
use Rattle.resolve_clauses.proofs.clauses.Given as goal

abbrev pub invariant-loop-part : goal.invariant-loop-part
invariant-loop-part l = Over l.nodes 0 l.to l.part-iterator × Walk (λ (T : AssetMarks l.nodes l.state l.declared l.known). T.view) naming (λ T. clause_rules (tree_of T.view)) (l.entry + 1) l.to 2048 l.initial.out l.count l.out l.total l.part-iterator.rest.at
