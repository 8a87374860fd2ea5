-- `mark_names` meets its contract: a walk over the items and the fields of the contract leaves out none of this kind.
use mathlib.Core.Bool.{true}
use mathlib.Core.List.{[], ◌∷◌}
use Rattle.rules.specs.Vocabulary.{named}
use Rattle.nodes.proofs.Declared.{Over}
use Rattle.nodes.specs.Shown.{View, tree_of}
use Rattle.nodes.proofs.Walking.{Walking}
use Rattle.model.proofs.mark_names.Given as goal

abbrev pub invariant-loop-declaration : goal.invariant-loop-declaration
invariant-loop-declaration l = let s = l.initial.declaration-iterator in Over l.nodes s.to l.declaration-iterator × Walking true (λ (W : View l.nodes 0). W) (l.kind ∷ []) (λ W. named (tree_of W)) 0 s.to l.initial.marks l.marks l.declaration-iterator.at
