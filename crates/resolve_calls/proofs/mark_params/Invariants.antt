-- `mark_params` meets its contract: a walk over the head of the entry is one over all of it.
use Rattle.rules.specs.Tree.{param}
use Rattle.nodes.specs.Shown.{tree_of}
use Rattle.nodes.proofs.Iterated.{Over}
use Rattle.nodes.proofs.Walking.{Walking}
use Rattle.resolve_calls.specs.Called.{AddressTyping, param_at}
use Rattle.resolve_calls.proofs.mark_params.Given as goal

abbrev pub invariant-loop-part : goal.invariant-loop-part
invariant-loop-part l = Over l.nodes 0 l.to l.part-iterator × Walking l.on (λ (T : AddressTyping l.nodes l.address). T.view) param (λ T. param_at (tree_of T.view)) l.entry l.to l.initial.params l.params l.part-iterator.rest.at
