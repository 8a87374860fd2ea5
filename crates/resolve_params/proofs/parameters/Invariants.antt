-- `parameters` meets its contract: a walk over the head of the entry is one over all of it.
use Prim.Native.Nat.{◌+◌}
use mathlib.Core.List.{◌++◌}
use Rattle.rules.specs.Tree.{param}
use Rattle.rules.specs.Resolve.{rule24, rule25}
use Rattle.nodes.specs.Shown.{tree_of}
use Rattle.nodes.proofs.Iterated.{Over}
use Rattle.nodes.proofs.Steps.{Walk}
use Rattle.resolve_lets.specs.Scope.{Params}
use Rattle.resolve_params.proofs.parameters.Given as goal

abbrev pub invariant-loop-part : goal.invariant-loop-part
invariant-loop-part l = Over l.nodes 0 l.to l.part-iterator × Walk (λ (T : Params l.nodes l.entry l.state l.params). T.named.view) param (λ T x. let t = tree_of T.named.view in rule24 t x ++ rule25 t l.entry x) (l.entry + 1) l.to 2 l.initial.out l.count l.out l.total l.part-iterator.rest.at
