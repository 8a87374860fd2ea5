-- `clauses32` meets its contract: a walk over the head of the entry is one over all of it.
use Prim.Native.Nat.{◌+◌}
use Rattle.nodes.specs.Shown.{tree_of}
use Rattle.nodes.proofs.Iterated.{Over}
use Rattle.nodes.proofs.Steps.{Walk}
use Rattle.rules.specs.Tree.{limits_denies_after}
use Rattle.resolve_deployer.specs.Deployed.{Deployed, ident_rules}
use Rattle.resolve_deployer.proofs.clauses32.Given as goal

abbrev pub invariant-loop-part : goal.invariant-loop-part
invariant-loop-part l = Over l.nodes 0 l.to l.part-iterator × Walk (λ (T : Deployed l.nodes 0 l.deployer). T.view) limits_denies_after (λ T. ident_rules (tree_of T.view)) (l.entry + 1) l.to 2048 l.initial.out l.count l.out l.total l.part-iterator.rest.at
