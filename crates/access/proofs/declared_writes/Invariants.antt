-- `declared_writes` meets its contract: a walk over the head of the entry is one over all of it.
use Rattle.rules.specs.Tree.{writes}
use Rattle.nodes.specs.Shown.{View, tree_of}
use Rattle.nodes.proofs.Iterated.{Over}
use Rattle.nodes.proofs.Walking.{Walking}
use Rattle.access.specs.Seen.{clause_has}
use Rattle.access.proofs.declared_writes.Given as goal

abbrev pub invariant-loop-clause : goal.invariant-loop-clause
invariant-loop-clause l = Over l.nodes 0 l.to l.clause-iterator × Walking l.on (λ (W : View l.nodes 0). W) writes (λ W. clause_has (tree_of W)) l.entry l.to l.initial.written l.written l.clause-iterator.rest.at
