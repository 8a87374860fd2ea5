-- `repeated` meets its contract: a walk over the items and the fields of the contract, with the first of each name noted.
use mathlib.Core.List.{[], ◌∷◌}
use Rattle.nodes.specs.Shown.{View, tree_of}
use Rattle.nodes.proofs.Declared.{Over}
use Rattle.nodes.proofs.Steps.{Walk}
use Rattle.resolve_names.specs.Seen.{met_rule}
use Rattle.resolve_names.proofs.repeated.Given as goal

abbrev pub invariant-loop-p : goal.invariant-loop-p
invariant-loop-p l = let s = l.initial.p-iterator in Over l.nodes s.to l.p-iterator × Walk (λ (W : View l.nodes 0). W) (l.kind ∷ []) (λ W. met_rule l.code (l.kind ∷ []) 1 (tree_of W) 0) 1 s.to 1 l.initial.out l.count l.out l.total l.p-iterator.at
